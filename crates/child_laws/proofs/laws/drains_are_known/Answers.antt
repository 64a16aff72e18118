use Rattle.child_laws.proofs.DrainLaws.{drains_known}
use Rattle.child_laws.proofs.laws.drains_are_known.Goals as goal

pub returns : goal.returns
returns c = drains_known
