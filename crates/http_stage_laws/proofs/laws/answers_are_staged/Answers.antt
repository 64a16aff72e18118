use Rattle.http_stage_laws.proofs.StagedLaws.{answers_staged}
use Rattle.http_stage_laws.proofs.laws.answers_are_staged.Goals as goal

pub returns : goal.returns
returns c = answers_staged
