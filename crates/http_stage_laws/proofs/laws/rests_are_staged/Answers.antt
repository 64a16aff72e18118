use Rattle.http_stage_laws.proofs.EndLaws.{rests_staged}
use Rattle.http_stage_laws.proofs.laws.rests_are_staged.Goals as goal

pub returns : goal.returns
returns c = rests_staged
