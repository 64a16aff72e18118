use Rattle.trace_laws.proofs.EndLaws.{one_unsettled}
use Rattle.trace_laws.proofs.laws.one_child_is_unsettled.Goals as goal

pub returns : goal.returns
returns c = one_unsettled
