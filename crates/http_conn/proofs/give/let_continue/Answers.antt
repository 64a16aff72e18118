use Rattle.std.proofs.Common.{true, false, subst}
use Rattle.http_state.specs.Tells.{TellsContinue}
use Rattle.http_conn.proofs.GaveLaws.{gave_as, gave_continue, gave_nothing, gave_part}
use Rattle.http_conn.proofs.give.let_continue.Goals as goal

pub returns-then-is_continue_due-clause-gave : goal.returns-then-is_continue_due-clause-gave
returns-then-is_continue_due-clause-gave g c n =
    gave_part (gave_as (λ moves d. record { due = true; tells = subst (TellsContinue c.args.conn.now) c.if-is_continue_due.true c.is_continue_due.ensures.tells; by = d })
    (gave_continue c.write_continue-found.result c.args.conn.now (c.is_continue_due.ensures.may c.if-is_continue_due.true) c.write_continue-found.ensures.place (c.is_continue_due.ensures.closing c.if-is_continue_due.true)
    c.write_continue-found.ensures.value c.write_continue-found.ensures.told))

pub returns-else-is_continue_due-clause-gave : goal.returns-else-is_continue_due-clause-gave
returns-else-is_continue_due-clause-gave g c n =
    gave_part (gave_as (λ moves d. record { due = false; tells = subst (TellsContinue c.args.conn.now) c.if-is_continue_due.false c.is_continue_due.ensures.tells; by = d })
    (gave_nothing c.args.conn.now))
