use Rattle.talk_core.proofs.PartLaws.{ends_are_talked}
use Rattle.talk_core.proofs.laws.ends_are_talked.Goals as goal

pub returns : goal.returns
returns c = λ early c limits t v L s texts code fed. ends_are_talked early c limits t v L s texts code fed
