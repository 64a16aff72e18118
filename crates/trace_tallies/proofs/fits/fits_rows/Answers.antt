-- By the laws of the rows.
use Rattle.std.proofs.Common.{sym, ◌∙◌}
use Rattle.trace_tallies.proofs.FitLaws.{fits_law, exact_law}
use Rattle.trace_tallies.proofs.fits.fits_rows.Goals as goal

pub returns-clause-sound : goal.returns-clause-sound
returns-clause-sound c = λ T rows passes. fits_law c.args.limit c.args.rows.now T c.args.event.now rows (sym c.passes_rows.ensures ∙ passes)

pub returns-clause-exact : goal.returns-clause-exact
returns-clause-exact c = λ T rows. c.passes_rows.ensures ∙ exact_law c.args.limit c.args.rows.now T c.args.event.now rows
