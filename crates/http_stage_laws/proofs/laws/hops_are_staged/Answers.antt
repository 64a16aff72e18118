use Rattle.http_stage_laws.proofs.HopLaws.{hops_staged}
use Rattle.http_stage_laws.proofs.laws.hops_are_staged.Goals as goal

pub returns : goal.returns
returns c = hops_staged
