use Rattle.good_step_laws.proofs.Both.GiveLaws.{phases_give}
use Rattle.good_step_laws.proofs.both_laws.phases_give.Goals as goal

pub returns : goal.returns
returns c = phases_give
