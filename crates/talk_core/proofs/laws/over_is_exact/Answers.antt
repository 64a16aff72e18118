use Rattle.talk_core.proofs.PartLaws.{over_is_exact}
use Rattle.talk_core.proofs.laws.over_is_exact.Goals as goal

pub returns : goal.returns
returns c = λ early c limits t v L s. over_is_exact early c limits t v L s
