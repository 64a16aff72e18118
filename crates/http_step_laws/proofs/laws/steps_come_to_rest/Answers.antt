use Rattle.http_step_laws.proofs.ComeLaws.{steps_come_to_rest}
use Rattle.http_step_laws.proofs.laws.steps_come_to_rest.Goals as goal

pub returns : goal.returns
returns c = steps_come_to_rest
