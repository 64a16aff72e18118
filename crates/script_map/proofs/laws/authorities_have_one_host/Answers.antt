use Rattle.script_map.proofs.AuthorityLaws.{authorities_have_one_host}
use Rattle.script_map.proofs.laws.authorities_have_one_host.Goals as goal

pub returns : goal.returns
returns c = authorities_have_one_host
