use Rattle.child_core.proofs.StepLaws.{walk-acting}
use Rattle.child_core.proofs.laws.acts_may_come.Goals as goal

pub returns : goal.returns
returns c = λ early s still may v L k. walk-acting early s still may v L k
