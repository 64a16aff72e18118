use Rattle.child_core.proofs.KnowsLaws.{Knows-noted}
use Rattle.child_core.proofs.laws.items_are_known.Goals as goal

pub returns : goal.returns
returns c = λ early s v L n x k a. Knows-noted early s v L n x k a
