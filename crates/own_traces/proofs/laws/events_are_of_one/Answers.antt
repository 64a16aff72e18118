use Rattle.own_traces.proofs.BlockLaws.{heard}
use Rattle.own_traces.proofs.laws.events_are_of_one.Goals as goal

pub returns : goal.returns
returns c = heard
