use Rattle.std.proofs.Common.{None, Some, subst}
use Rattle.http_state.specs.Tells.{TellsWhy}
use Rattle.http_conn.proofs.GaveLaws.{gave_as, gave_nothing, gave_part}
use Rattle.http_conn.proofs.close.close.Goals as goal

pub returns-in-Some-clause-gave : goal.returns-in-Some-clause-gave
returns-in-Some-clause-gave g c n =
    gave_part (gave_as (λ moves d. record { why = Some c.in-Some.why; tells = subst (TellsWhy c.args.conn.now) c.in-Some.is c.why.ensures.tells; by = d }) (c.shut_for.ensures.gave n))

pub returns-in_default-clause-gave : goal.returns-in_default-clause-gave
returns-in_default-clause-gave g c n =
    gave_part (gave_as (λ moves d. record { why = None; tells = subst (TellsWhy c.args.conn.now) c.in_default.is c.why.ensures.tells; by = d }) (gave_nothing c.args.conn.now))
