use Rattle.child_core.proofs.StepLaws.{good-acting}
use Rattle.child_core.proofs.laws.acts_are_good.Goals as goal

pub returns : goal.returns
returns c = good-acting
