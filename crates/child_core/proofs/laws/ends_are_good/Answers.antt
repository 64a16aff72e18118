use Rattle.child_core.proofs.EndLaws.{good_at_end}
use Rattle.child_core.proofs.laws.ends_are_good.Goals as goal

pub returns : goal.returns
returns c = good_at_end
