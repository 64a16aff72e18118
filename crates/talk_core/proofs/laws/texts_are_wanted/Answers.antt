use Rattle.talk_core.proofs.PartLaws.{texts_are_wanted}
use Rattle.talk_core.proofs.laws.texts_are_wanted.Goals as goal

pub returns : goal.returns
returns c = λ early c limits t v L s. texts_are_wanted early c limits t v L s
