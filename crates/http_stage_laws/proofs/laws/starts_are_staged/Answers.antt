use Rattle.http_stage_laws.proofs.EndLaws.{starts_staged}
use Rattle.http_stage_laws.proofs.laws.starts_are_staged.Goals as goal

pub returns : goal.returns
returns c = starts_staged
