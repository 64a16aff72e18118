use Rattle.conn_flags.proofs.FitLaws.{fits_told}
use Rattle.conn_flags.proofs.laws.fits_are_exact.Goals as goal

pub returns : goal.returns
returns c = fits_told
