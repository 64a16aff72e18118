use Rattle.trace_child.proofs.ChildRules.{fed_of}
use Rattle.trace_child.proofs.laws.bodies_are_fronts.Goals as goal

pub returns : goal.returns
returns c = fed_of
