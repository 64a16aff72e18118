use Rattle.child_core.proofs.CallLaws.{closed-is}
use Rattle.child_core.proofs.laws.closes_are_items.Goals as goal

pub returns : goal.returns
returns c = λ c v w. closed-is c v w
