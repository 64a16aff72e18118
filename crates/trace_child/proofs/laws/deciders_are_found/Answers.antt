use Rattle.trace_child.proofs.DecidedLaws.{none_decides}
use Rattle.trace_child.proofs.laws.deciders_are_found.Goals as goal

pub returns : goal.returns
returns c = none_decides
