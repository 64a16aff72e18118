use Rattle.good_step_laws.proofs.Shuts.StopLaws.{steps_end_at_stop}
use Rattle.good_step_laws.proofs.shut_laws.steps_end_at_stop.Goals as goal

pub returns : goal.returns
returns c = steps_end_at_stop
