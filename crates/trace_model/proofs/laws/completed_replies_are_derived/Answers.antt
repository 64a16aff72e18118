use Rattle.trace_model.proofs.CompletedLaws.{answered_in_order}
use Rattle.trace_model.proofs.laws.completed_replies_are_derived.Goals as goal

pub returns : goal.returns
returns c = answered_in_order
