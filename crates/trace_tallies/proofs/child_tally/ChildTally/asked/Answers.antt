-- The tally goes on with the trace.
use Rattle.std.proofs.Common.{sym, ◌∙◌, ap}
use Rattle.trace_tallies.specs.ChildTallies.{child_asked}
use Rattle.trace_tallies.proofs.ChildTallyLaws.{goes_on, asked_push}
use Rattle.trace_tallies.proofs.child_tally.ChildTally.asked.Goals as goal

pub returns-clause-counted : goal.returns-clause-counted
returns-clause-counted c = λ T is.
    goes_on c.with_act.result _ _ c.with_act.ensures.some (ap (child_asked c.args.k c.args.act.now) is ∙ sym (asked_push T c.args.act.now c.args.k))
