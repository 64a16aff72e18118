use Rattle.child_core.proofs.TellLaws.{settled_is}
use Rattle.child_core.proofs.tell_laws.settled_is_exact.Goals as goal

pub returns : goal.returns
returns c = settled_is
