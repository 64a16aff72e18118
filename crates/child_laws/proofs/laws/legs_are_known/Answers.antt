use Rattle.child_laws.proofs.KnowLaws.{legs_are_known}
use Rattle.child_laws.proofs.laws.legs_are_known.Goals as goal

pub returns : goal.returns
returns c = legs_are_known
