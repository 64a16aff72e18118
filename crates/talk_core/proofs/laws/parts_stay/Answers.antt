use Rattle.talk_core.proofs.PartLaws.{parts_stay}
use Rattle.talk_core.proofs.laws.parts_stay.Goals as goal

pub returns : goal.returns
returns c = λ run t L x k n e. parts_stay run t L x k n e
