use Rattle.child_core.proofs.TellLaws.{noted-other}
use Rattle.child_core.proofs.tell_laws.others_change_nothing.Goals as goal

pub returns : goal.returns
returns c = noted-other
