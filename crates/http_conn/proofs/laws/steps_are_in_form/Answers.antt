use Rattle.http_conn.proofs.StepLaws.{step_in_form}
use Rattle.http_conn.proofs.laws.steps_are_in_form.Goals as goal

pub returns : goal.returns
returns c = step_in_form
