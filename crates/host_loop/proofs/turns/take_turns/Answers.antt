-- Each turn is a step of the core.
use Rattle.std.proofs.Common.{rules, ◌≡◌, List, Some, sym, ◌∙◌, subst, false, arith}
use Rattle.host_trace.specs.declared.items.Item.{Item}
use Rattle.host_trace.specs.Projections.{stopped}
use Rattle.host_trace.specs.Account.{all_settled}
use Rattle.host_core.proofs.GoodLaws.{stands_good}
use Rattle.host_core.specs.Stands.{Good}
use Rattle.host_loop.specs.Served.{is_over}
use Rattle.host_loop.proofs.OverLaws.{and_true, never_over, first_over, not_settled, not_stopped}
use Rattle.host_loop.proofs.TurnLaws.{told_still, turned}
use Rattle.host_loop.proofs.turns.take_turns.Goals.{else-stopped-via-then-stopped+else-all_settled, else-stopped-via-else-stopped}
use Rattle.host_loop.proofs.turns.take_turns.Goals as goal

pub returns-then-all_settled-clause-served : goal.returns-then-all_settled-clause-served
returns-then-all_settled-clause-served g c =
    let t = λ (T : List Item) (told : g.O.Outside.trace c.step.new.out ≡ Some T). turned c.loop-turn.core c.step.new.self _ _ _ _ _ _ c.loop-turn.invariant.stands c.loop-turn.invariant.count c.loop-turn.invariant.never (rw c.loop-turn.invariant.site c.loop-turn.invariant.limit) c.next-ev.ensures.told c.step.ensures.stands c.step.ensures.told T told in
    let over = λ (T : List Item) (told : g.O.Outside.trace c.step.new.out ≡ Some T). and_true (stopped T) (all_settled T) (sym (c.if-stopped.ensures T (t T told).stands)) (sym (c.if-all_settled.ensures T (t T told).stands)) in
    record {
      good = λ T told. subst (λ s. Good g.C.Connection.kind s T) (c.step.ensures.site ∙ c.loop-turn.invariant.site) (stands_good g.met.C.Connection.laws c.step.new.self T (t T told).stands);
      served = λ T told. record { over = over T told; first = first_over T (t T told).first (over T told); within = rw (t T told).count (omega (arith, c.loop-turn-test.true)) };
    }

pub returns-then-all_settled-clause-told : goal.returns-then-all_settled-clause-told
returns-then-all_settled-clause-told g c = told_still (g.O.Outside.trace c.args.out.now) (g.O.Outside.trace c.loop-turn.out) (g.O.Outside.trace c.next-ev.new.self) (g.O.Outside.trace c.step.new.out) _ _ c.loop-turn.invariant.told c.next-ev.ensures.told c.step.ensures.told

pub loop-turn-preserved : goal.loop-turn-preserved
loop-turn-preserved g c =
    let t = λ (T : List Item) (told : g.O.Outside.trace c.step.new.out ≡ Some T). turned c.loop-turn.core c.step.new.self _ _ _ _ _ _ c.loop-turn.invariant.stands c.loop-turn.invariant.count c.loop-turn.invariant.never (rw c.loop-turn.invariant.site c.loop-turn.invariant.limit) c.next-ev.ensures.told c.step.ensures.stands c.step.ensures.told T told in
    let over = λ (T : List Item) (told : g.O.Outside.trace c.step.new.out ≡ Some T). elim c.else-stopped.branch as (λ _. is_over T ≡ false) [
      | else-stopped-via-then-stopped+else-all_settled w ↦ not_settled (stopped T) (all_settled T) (sym (w.all_settled.ensures T (t T told).stands) ∙ w.if-all_settled.false)
      | else-stopped-via-else-stopped w ↦ not_stopped (stopped T) (all_settled T) (sym (c.stopped.ensures T (t T told).stands) ∙ w.if-stopped.false)
    ] in
    record {
      stands = λ T told. (t T told).stands;
      count = λ T told. (t T told).count;
      never = λ T told. never_over T (t T told).first (over T told);
      over = over;
      sound = c.step.ensures.sound;
      accepted = omega (arith, c.step.ensures.count.accepted, c.loop-turn.invariant.accepted);
      site = c.step.ensures.site ∙ c.loop-turn.invariant.site;
      limit = c.step.ensures.limit ∙ (c.next-ev.ensures.limit ∙ c.loop-turn.invariant.limit);
      told = told_still (g.O.Outside.trace c.args.out.now) (g.O.Outside.trace c.loop-turn.out) (g.O.Outside.trace c.next-ev.new.self) (g.O.Outside.trace c.step.new.out) _ _ c.loop-turn.invariant.told c.next-ev.ensures.told c.step.ensures.told;
    }

pub returns-clause-served : goal.returns-clause-served
returns-clause-served g c = record {
  good = λ T told. subst (λ s. Good g.C.Connection.kind s T) c.loop-turn.invariant.site (stands_good g.met.C.Connection.laws c.loop-turn.core T (c.loop-turn.invariant.stands T told));
  served = λ T told. record { never = c.loop-turn.invariant.never T told; not_over = c.loop-turn.invariant.over T told; heard = search rules };
}
