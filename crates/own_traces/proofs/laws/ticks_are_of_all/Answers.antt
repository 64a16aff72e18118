use Rattle.own_traces.proofs.BlockLaws.{heard_by_all-tick}
use Rattle.own_traces.proofs.laws.ticks_are_of_all.Goals as goal

pub returns : goal.returns
returns c = heard_by_all-tick
