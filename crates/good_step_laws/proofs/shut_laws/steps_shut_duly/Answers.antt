use Rattle.good_step_laws.proofs.Shuts.ShutLaws.{steps_shut_duly}
use Rattle.good_step_laws.proofs.shut_laws.steps_shut_duly.Goals as goal

pub returns : goal.returns
returns c = steps_shut_duly
