use Rattle.talk_core.proofs.WalkLaws.{talk_acts_are_known}
use Rattle.talk_core.proofs.laws.talk_acts_are_known.Goals as goal

pub returns : goal.returns
returns c = λ early c limits t v L s. talk_acts_are_known early c limits t v L s
