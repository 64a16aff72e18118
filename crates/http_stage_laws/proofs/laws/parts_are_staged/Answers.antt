use Rattle.http_stage_laws.proofs.EndLaws.{parts_staged}
use Rattle.http_stage_laws.proofs.laws.parts_are_staged.Goals as goal

pub returns : goal.returns
returns c = parts_staged
