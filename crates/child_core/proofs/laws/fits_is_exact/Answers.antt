use Rattle.child_core.proofs.AdmitLaws.{fits_is}
use Rattle.child_core.proofs.laws.fits_is_exact.Goals as goal

pub returns : goal.returns
returns c = fits_is
