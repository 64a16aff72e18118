use Rattle.good_step_laws.proofs.Opens.MissLaws.{misses_are_good}
use Rattle.good_step_laws.proofs.open_laws.misses_are_good.Goals as goal

pub returns : goal.returns
returns c = misses_are_good
