use Rattle.script_map.proofs.MappingCausesLaws.{refuses_other_hosts, refuses_unreadable, refuses_what_fits_none}
use Rattle.script_map.proofs.laws.paths_are_refused.Goals as goal

pub returns-clause-hosts : goal.returns-clause-hosts
returns-clause-hosts c = refuses_other_hosts

pub returns-clause-unreadable : goal.returns-clause-unreadable
returns-clause-unreadable c = refuses_unreadable

pub returns-clause-unfit : goal.returns-clause-unfit
returns-clause-unfit c = refuses_what_fits_none
