use Rattle.http_conn.proofs.StepLaws.{step_fronts}
use Rattle.http_conn.proofs.laws.steps_keep_fronts.Goals as goal

pub returns : goal.returns
returns c = step_fronts
