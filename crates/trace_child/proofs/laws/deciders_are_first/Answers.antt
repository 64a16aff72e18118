use Rattle.trace_child.proofs.DecidedLaws.{is_first}
use Rattle.trace_child.proofs.laws.deciders_are_first.Goals as goal

pub returns : goal.returns
returns c = is_first
