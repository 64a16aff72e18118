use Rattle.child_laws.proofs.ActLaws.{losses_known}
use Rattle.child_laws.proofs.laws.losses_are_known.Goals as goal

pub returns : goal.returns
returns c = losses_known
