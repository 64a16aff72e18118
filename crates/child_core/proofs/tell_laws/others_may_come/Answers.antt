use Rattle.child_core.proofs.TellLaws.{other-admits}
use Rattle.child_core.proofs.tell_laws.others_may_come.Goals as goal

pub returns : goal.returns
returns c = other-admits
