use Rattle.talk_core.proofs.GiveLaws.{acts_are_known}
use Rattle.talk_core.proofs.laws.acts_are_known.Goals as goal

pub returns : goal.returns
returns c = λ early may c limits t v L act s m. acts_are_known early may c limits t v L act s m
