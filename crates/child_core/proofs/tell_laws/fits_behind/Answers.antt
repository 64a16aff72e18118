use Rattle.child_core.proofs.BehindLaws.{fits-behind}
use Rattle.child_core.proofs.tell_laws.fits_behind.Goals as goal

pub returns : goal.returns
returns c = fits-behind
