use Rattle.trace_model.proofs.EndLaws.{answered_by_trace}
use Rattle.trace_model.proofs.laws.replies_of_traces_are_derived.Goals as goal

pub returns : goal.returns
returns c = answered_by_trace
