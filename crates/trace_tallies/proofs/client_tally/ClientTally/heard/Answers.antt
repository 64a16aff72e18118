-- The tally goes on with the trace.
use Rattle.std.proofs.Common.{sym, ◌∙◌, ap}
use Rattle.trace_tallies.specs.ClientTallies.{client_heard}
use Rattle.trace_tallies.proofs.ClientTallyLaws.{goes_on, heard_push}
use Rattle.trace_tallies.proofs.client_tally.ClientTally.heard.Goals as goal

pub returns-clause-counted : goal.returns-clause-counted
returns-clause-counted c = λ T is.
    goes_on c.with_event.result _ _ c.with_event.ensures.some (ap (client_heard c.args.c c.args.event.now) is ∙ sym (heard_push T c.args.event.now c.args.c))
