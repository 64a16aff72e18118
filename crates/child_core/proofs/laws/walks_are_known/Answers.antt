use Rattle.child_core.proofs.EndLaws.{Knows-walk}
use Rattle.child_core.proofs.laws.walks_are_known.Goals as goal

pub returns : goal.returns
returns c = λ early s v L acts k w. Knows-walk early s v L acts k w
