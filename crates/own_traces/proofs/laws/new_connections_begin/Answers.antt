use Rattle.own_traces.proofs.BlockLaws.{begins}
use Rattle.own_traces.proofs.laws.new_connections_begin.Goals as goal

pub returns : goal.returns
returns c = begins
