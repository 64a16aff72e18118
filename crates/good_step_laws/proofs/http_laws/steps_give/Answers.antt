use Rattle.good_step_laws.proofs.Http.OwnLaws.{steps_give}
use Rattle.good_step_laws.proofs.http_laws.steps_give.Goals as goal

pub returns : goal.returns
returns c = steps_give
