use Rattle.http_stage_laws.proofs.EndLaws.{continues_staged}
use Rattle.http_stage_laws.proofs.laws.continues_are_staged.Goals as goal

pub returns : goal.returns
returns c = continues_staged
