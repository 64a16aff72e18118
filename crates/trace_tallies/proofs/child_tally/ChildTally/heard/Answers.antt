-- The tally goes on with the trace.
use Rattle.std.proofs.Common.{sym, ◌∙◌, ap}
use Rattle.trace_tallies.specs.ChildTallies.{child_heard}
use Rattle.trace_tallies.proofs.ChildTallyLaws.{goes_on, heard_push}
use Rattle.trace_tallies.proofs.child_tally.ChildTally.heard.Goals as goal

pub returns-clause-counted : goal.returns-clause-counted
returns-clause-counted c = λ T is.
    goes_on c.with_event.result _ _ c.with_event.ensures.some (ap (child_heard c.args.k c.args.event.now) is ∙ sym (heard_push T c.args.event.now c.args.k))
