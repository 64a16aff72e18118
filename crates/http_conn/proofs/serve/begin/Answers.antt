use Rattle.std.proofs.Common.{◌≡◌, true, false, ap, subst, ◌∙◌, is_some}
use Rattle.conn_flags.specs.View.{may_write}
use Rattle.http_state.specs.declared.conn.HttpConn.{HttpConn}
use Rattle.http_state.specs.Kept.{Gave}
use Rattle.http_state.specs.Deeds.{the_one, the_other}
use Rattle.http_state.specs.Tells.{TellsTurn}
use Rattle.http_state.specs.Begins.{ReadiesWelcome}
use Rattle.http_conn.proofs.GaveLaws.{Wrote, adds_nothing, gave_as, gave_lost, gave_nothing, gave_then, gave_write}
use Rattle.http_state.proofs.DueLaws.{turn_found}
use Rattle.http_conn.proofs.PartLaws.{gave_hop_ready, part_as}
use Rattle.http_conn.proofs.WelcomeLaws.{gave_greeting, readied_same, start_writes}
use Rattle.http_conn.proofs.serve.begin.Goals as goal

pub returns-then-not-has_turn-clause-gave : goal.returns-then-not-has_turn-clause-gave
returns-then-not-has_turn-clause-gave g c =
    gave_as (λ moves d. record { turn = false; tells = subst (TellsTurn c.args.conn.now) c.if-not-has_turn.true c.has_turn.ensures.tells; by = d }) (gave_nothing c.args.conn.now)

pub returns-in-Some-clause-gave : goal.returns-in-Some-clause-gave
returns-in-Some-clause-gave g c =
    let old : HttpConn = c.args.conn.now in
    let turn : TellsTurn old true = subst (TellsTurn old) c.if-not-has_turn.false c.has_turn.ensures.tells in
    let same : c.ready_hop.new.self ≡ old = readied_same c.in-Some.ensures.welcome in
    let readied : ReadiesWelcome c.in-Some.welcome old old = subst (λ (x : HttpConn). ReadiesWelcome c.in-Some.welcome old x) same c.in-Some.ensures.welcome in
    let may : may_write c.ready_hop.new.self.flags ≡ true = ap (λ (x : HttpConn). may_write x.flags) same ∙ start_writes old.flags (c.has_turn.ensures.may c.if-not-has_turn.false) in
    let open_yet : c.ready_hop.new.self.closing ≡ false = ap (λ (x : HttpConn). x.closing) same ∙ c.has_turn.ensures.«open» c.if-not-has_turn.false in
    let written = gave_write c.in-Some.welcome.text (is_some c.greet.result) c.ready_hop.new.self may c.greet.ensures.place open_yet c.greet.ensures.value c.greet.ensures.told in
    gave_greeting old c.args.children.now c.in-Some.welcome readied turn c.greet.result c.greet.ensures.launch c.greet.ensures.filled c.args.now
    (subst (λ (x : HttpConn). Gave (Wrote c.in-Some.welcome.text (is_some c.greet.result)) x c.args.children.now (g.O.Outside.trace c.args.out.now) c.greet.new.conn c.args.children.now (g.O.Outside.trace c.greet.new.out)) same written)

pub returns-then-conn-clause-gave : goal.returns-then-conn-clause-gave
returns-then-conn-clause-gave g c =
    let turn : TellsTurn c.args.conn.now true = subst (TellsTurn c.args.conn.now) c.if-not-has_turn.false c.has_turn.ensures.tells in
    gave_as (λ moves d. record {
      turn = true;
      tells = turn;
      by = the_other (part_as (λ l. record { loses = l; waits = c.ready_hop.ensures.waits (turn_found turn) c.if-conn.true }) d);
    })
    (gave_lost c.ready_hop.ensures.kept (c.ready_hop.ensures.gives_up (turn_found turn) c.if-conn.true) (adds_nothing (g.O.Outside.trace c.args.out.now)))

pub returns-else-conn-clause-gave : goal.returns-else-conn-clause-gave
returns-else-conn-clause-gave g c =
    let turn : TellsTurn c.args.conn.now true = subst (TellsTurn c.args.conn.now) c.if-not-has_turn.false c.has_turn.ensures.tells in
    gave_as (λ moves d. record { turn = true; tells = turn; by = the_one d })
    (gave_then (gave_hop_ready c.ready_hop.ensures.kept c.if-conn.false (c.ready_hop.ensures.hop c.in-None.is c.if-conn.false)) c.give_hop.ensures.gave)
