use Rattle.limit_clock.proofs.CountLaws.{met_once}
use Rattle.limit_clock.proofs.laws.deadlines_are_met_once.Goals as goal

pub returns : goal.returns
returns c = met_once
