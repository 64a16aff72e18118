use Rattle.child_core.proofs.CallLaws.{heard-is}
use Rattle.child_core.proofs.laws.hears_are_items.Goals as goal

pub returns : goal.returns
returns c = heard-is
