use Rattle.http_conn.proofs.StepLaws.{step_in_time}
use Rattle.http_conn.proofs.laws.steps_are_in_time.Goals as goal

pub returns : goal.returns
returns c = step_in_time
