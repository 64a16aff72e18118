use Rattle.std.proofs.Common.{Option, Some, sym, ap, subst, ◌∙◌}
use Rattle.child_core.specs.declared.ending.Outcome.{Outcome}
use Rattle.http_state.specs.Ready.{MayLackReply}
use Rattle.http_state.proofs.conn.HttpConn.ready_by_run.Goals as goal

pub returns-in-Some-Output-clause-may : goal.returns-in-Some-Output-clause-may
returns-in-Some-Output-clause-may c found lost =
    subst (λ (o : Option Outcome). MayLackReply o c.args.leg c.args.self.now.run) (sym (ap Some c.in-Some-Output.field-0-is) ∙ (sym c.in-Some-Output.is ∙ c.outcome.ensures))
    (c.ready_last.ensures.lacks found lost)

pub returns-in-Some-Failed-clause-may : goal.returns-in-Some-Failed-clause-may
returns-in-Some-Failed-clause-may c found lost =
    subst (λ (o : Option Outcome). MayLackReply o c.args.leg c.args.self.now.run) (sym (ap Some c.in-Some-Failed.field-0-is) ∙ (sym c.in-Some-Failed.is ∙ c.outcome.ensures))
    (c.ready_failure.ensures.lacks found lost)
