use Rattle.talk_core.proofs.PartLaws.{parts_are_talked}
use Rattle.talk_core.proofs.laws.parts_are_talked.Goals as goal

pub returns : goal.returns
returns c = λ run t L k. parts_are_talked run t L k
