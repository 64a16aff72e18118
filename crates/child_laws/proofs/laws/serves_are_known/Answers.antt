use Rattle.child_laws.proofs.KnowLaws.{serves_known}
use Rattle.child_laws.proofs.laws.serves_are_known.Goals as goal

pub returns : goal.returns
returns c = serves_known
