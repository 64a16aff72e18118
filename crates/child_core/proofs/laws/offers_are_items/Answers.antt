use Rattle.child_core.proofs.CallLaws.{offered-is}
use Rattle.child_core.proofs.laws.offers_are_items.Goals as goal

pub returns : goal.returns
returns c = λ c v bytes more last. offered-is c v bytes more last
