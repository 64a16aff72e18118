use Rattle.trace_child.proofs.ChildRules.{settled_at_exit}
use Rattle.trace_child.proofs.laws.exits_settle.Goals as goal

pub returns : goal.returns
returns c = settled_at_exit
