use Rattle.good_step_laws.proofs.Opens.UntalkedLaws.{untalked_stays}
use Rattle.good_step_laws.proofs.open_laws.untalked_stays.Goals as goal

pub returns : goal.returns
returns c = untalked_stays
