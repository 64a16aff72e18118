use Rattle.http_step_laws.proofs.KeepLaws.{steps_keep_step}
use Rattle.http_step_laws.proofs.laws.steps_keep_step.Goals as goal

pub returns : goal.returns
returns c = steps_keep_step
