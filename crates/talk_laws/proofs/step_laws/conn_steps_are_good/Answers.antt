use Rattle.talk_laws.proofs.Steps.StepLaws.{talk_steps_are_good}
use Rattle.talk_laws.proofs.step_laws.conn_steps_are_good.Goals as goal

pub returns : goal.returns
returns c = talk_steps_are_good
