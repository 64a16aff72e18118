use Rattle.trace_child.proofs.ChildRules.{fed_all}
use Rattle.trace_child.proofs.laws.bodies_are_whole.Goals as goal

pub returns : goal.returns
returns c = fed_all
