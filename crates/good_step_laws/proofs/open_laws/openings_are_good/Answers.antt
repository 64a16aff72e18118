use Rattle.good_step_laws.proofs.Opens.OpeningLaws.{openings_are_good}
use Rattle.good_step_laws.proofs.open_laws.openings_are_good.Goals as goal

pub returns : goal.returns
returns c = openings_are_good
