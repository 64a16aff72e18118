use Rattle.script_map.proofs.HostLaws.{first_host_serves_nameless, names_find_their_host, any_takes_other_names, other_names_have_no_host}
use Rattle.script_map.proofs.laws.hosts_are_found.Goals as goal

pub returns-clause-first : goal.returns-clause-first
returns-clause-first c = first_host_serves_nameless

pub returns-clause-names : goal.returns-clause-names
returns-clause-names c = names_find_their_host

pub returns-clause-any : goal.returns-clause-any
returns-clause-any c = any_takes_other_names

pub returns-clause-others : goal.returns-clause-others
returns-clause-others c = other_names_have_no_host
