use Rattle.talk_core.proofs.PartLaws.{losses_are_known}
use Rattle.talk_core.proofs.laws.losses_are_known.Goals as goal

pub returns : goal.returns
returns c = λ c limits t v L k. losses_are_known c limits t v L k
