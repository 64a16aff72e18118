use Rattle.own_traces.proofs.BetweenLaws.{between-empty}
use Rattle.own_traces.proofs.laws.nothing_is_between.Goals as goal

pub returns : goal.returns
returns c = between-empty
