use Rattle.http_conn.proofs.StepLaws.{step_known}
use Rattle.http_conn.proofs.laws.steps_are_known.Goals as goal

pub returns : goal.returns
returns c = step_known
