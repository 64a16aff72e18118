use Rattle.std.proofs.Common.{ℕ, ◌≡◌, refl, subst, ◌∙◌, add-one, arith}
use Rattle.http_state.specs.Kept.{Gave}
use Rattle.http_state.specs.Tells.{TellsMore}
use Rattle.http_conn.specs.Parts.{Rounds}
use Rattle.http_conn.proofs.GaveLaws.{gave_as}
use Rattle.http_conn.proofs.PartLaws.{gave_no_rounds, gave_round}
use Rattle.http_conn.proofs.WelcomeLaws.{begun_as, gave_greeted, none_of}
use Rattle.http_conn.proofs.serve.go_on_for.Goals as goal

pub loop-turn-init : goal.loop-turn-init
loop-turn-init g c = record { gave = gave_no_rounds c.args.now c.args.conn.now; limit = refl }

pub loop-turn-preserved : goal.loop-turn-preserved
loop-turn-preserved g c = record {
  gave = rw add-one (gave_round c.loop-turn._turn c.loop-turn.invariant.gave (subst (TellsMore c.loop-turn.conn) c.if-not-may_go_on.false c.may_go_on.ensures)
      (begun_as (none_of c.in_default.not-Some) c.go_on.ensures.gave));
  limit = c.go_on.ensures.limit ∙ c.loop-turn.invariant.limit;
}

pub returns-then-not-may_go_on-clause-gave : goal.returns-then-not-may_go_on-clause-gave
returns-then-not-may_go_on-clause-gave g c = gave_as (λ moves d. (c.loop-turn._turn, d)) c.loop-turn.invariant.gave

pub returns-in-Some-clause-gave : goal.returns-in-Some-clause-gave
returns-in-Some-clause-gave g c =
    gave_greeted c.in-Some.launch c.loop-turn._turn c.loop-turn.invariant.gave (subst (TellsMore c.loop-turn.conn) c.if-not-may_go_on.false c.may_go_on.ensures)
    (begun_as c.in-Some.is c.go_on.ensures.gave)

pub returns-clause-gave : goal.returns-clause-gave
returns-clause-gave g c =
    let all : c.loop-turn._turn ≡ c.args.most = omega (arith, c.loop-turn-test.false, c.loop-turn.auto._turn-end) in
    subst (λ (turns : ℕ). Gave (Rounds turns c.args.now) c.args.conn.now c.args.children.now (g.O.Outside.trace c.args.out.now) c.loop-turn.conn c.loop-turn.children (g.O.Outside.trace c.loop-turn.out))
    all c.loop-turn.invariant.gave
