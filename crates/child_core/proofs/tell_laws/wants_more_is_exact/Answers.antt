use Rattle.child_core.proofs.TellLaws.{wants_are}
use Rattle.child_core.proofs.tell_laws.wants_more_is_exact.Goals as goal

pub returns : goal.returns
returns c = wants_are
