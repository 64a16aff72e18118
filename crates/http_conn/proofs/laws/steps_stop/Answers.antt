use Rattle.http_conn.proofs.StepLaws.{step_stops}
use Rattle.http_conn.proofs.laws.steps_stop.Goals as goal

pub returns : goal.returns
returns c = step_stops
