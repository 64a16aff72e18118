use Rattle.good_step_laws.proofs.Steps.GoodLaws.{steps_are_good}
use Rattle.good_step_laws.proofs.step_laws.steps_are_good.Goals as goal

pub returns : goal.returns
returns c = steps_are_good
