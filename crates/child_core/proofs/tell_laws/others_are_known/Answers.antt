use Rattle.child_core.proofs.TellLaws.{Knows-other}
use Rattle.child_core.proofs.tell_laws.others_are_known.Goals as goal

pub returns : goal.returns
returns c = Knows-other
