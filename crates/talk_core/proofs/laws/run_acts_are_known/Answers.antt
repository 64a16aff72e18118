use Rattle.talk_core.proofs.WalkLaws.{run_acts_are_known}
use Rattle.talk_core.proofs.laws.run_acts_are_known.Goals as goal

pub returns : goal.returns
returns c = λ early may c limits t v L s. run_acts_are_known early may c limits t v L s
