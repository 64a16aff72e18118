use Rattle.limit_clock.proofs.CountLaws.{stay_over}
use Rattle.limit_clock.proofs.laws.deadlines_stay_over.Goals as goal

pub returns : goal.returns
returns c = stay_over
