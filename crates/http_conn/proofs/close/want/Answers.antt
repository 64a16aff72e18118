use Rattle.std.proofs.Common.{true, false, subst}
use Rattle.http_state.specs.Tells.{TellsAsk}
use Rattle.http_conn.proofs.GaveLaws.{gave_as, gave_nothing, gave_part}
use Rattle.http_conn.proofs.close.want.Goals as goal

pub returns-then-is_ask_due-clause-gave : goal.returns-then-is_ask_due-clause-gave
returns-then-is_ask_due-clause-gave g c n =
    gave_part (gave_as (λ moves d. record { due = true; tells = subst (TellsAsk c.args.conn.now) c.if-is_ask_due.true c.is_ask_due.ensures.tells; by = d }) (c.ask.ensures.gave n))

pub returns-else-is_ask_due-clause-gave : goal.returns-else-is_ask_due-clause-gave
returns-else-is_ask_due-clause-gave g c n =
    gave_part (gave_as (λ moves d. record { due = false; tells = subst (TellsAsk c.args.conn.now) c.if-is_ask_due.false c.is_ask_due.ensures.tells; by = d }) (gave_nothing c.args.conn.now))
