use Rattle.child_core.proofs.TellLaws.{run-admits}
use Rattle.child_core.proofs.tell_laws.fits_may_come.Goals as goal

pub returns : goal.returns
returns c = run-admits
