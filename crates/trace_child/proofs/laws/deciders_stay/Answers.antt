use Rattle.trace_child.proofs.DecidedLaws.{decided_at-stays}
use Rattle.trace_child.proofs.laws.deciders_stay.Goals as goal

pub returns : goal.returns
returns c = decided_at-stays
