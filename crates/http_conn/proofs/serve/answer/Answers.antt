use Rattle.std.proofs.Common.{true, false, subst}
use Rattle.http_state.specs.Deeds.{the_one, the_other}
use Rattle.http_state.specs.Tells.{TellsEnding}
use Rattle.http_conn.proofs.GaveLaws.{gave_as, gave_nothing, gave_part, gave_then, gave_turned}
use Rattle.http_state.proofs.DueLaws.{ending_found}
use Rattle.http_conn.proofs.PartLaws.{gave_ready, gave_ready_lost}
use Rattle.http_conn.proofs.serve.answer.Goals as goal

pub returns-then-not-conn-clause-gave : goal.returns-then-not-conn-clause-gave
returns-then-not-conn-clause-gave g c n =
    let goes : TellsEnding c.let_continue.new.conn false = subst (TellsEnding c.let_continue.new.conn) c.if-is_ending.false c.is_ending.ensures.tells in
    gave_then (gave_part (gave_turned c.look.ensures.turned)) (gave_then (c.let_continue.ensures.gave n)
    (gave_as (λ moves d. record { ending = false; tells = goes; by = the_one d })
    (gave_then (gave_ready c.ready_answer.ensures.kept c.if-not-conn.true (c.ready_answer.ensures.answer c.if-not-conn.true)) (c.give_answer.ensures.gave n))))

pub returns-else-not-conn-clause-gave : goal.returns-else-not-conn-clause-gave
returns-else-not-conn-clause-gave g c n =
    let goes : TellsEnding c.let_continue.new.conn false = subst (TellsEnding c.let_continue.new.conn) c.if-is_ending.false c.is_ending.ensures.tells in
    gave_then (gave_part (gave_turned c.look.ensures.turned)) (gave_then (c.let_continue.ensures.gave n)
    (gave_as (λ moves d. record { ending = false; tells = goes; by = the_other d })
    (gave_ready_lost c.ready_answer.ensures.kept (c.ready_answer.ensures.gives_up (ending_found goes) c.if-not-conn.false)
    (λ leg at ended. c.ready_answer.ensures.lacks leg at ended (ending_found goes) c.if-not-conn.false) (c.ready_answer.ensures.may (ending_found goes) c.if-not-conn.false))))

pub returns-then-is_ending-clause-gave : goal.returns-then-is_ending-clause-gave
returns-then-is_ending-clause-gave g c n =
    gave_then (gave_part (gave_turned c.look.ensures.turned)) (gave_then (c.let_continue.ensures.gave n)
    (gave_as (λ moves d. record { ending = true; tells = subst (TellsEnding c.let_continue.new.conn) c.if-is_ending.true c.is_ending.ensures.tells; by = d })
    (gave_nothing c.let_continue.new.conn)))
