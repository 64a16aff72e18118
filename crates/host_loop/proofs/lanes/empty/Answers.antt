-- One outside more is back in its place.
use Rattle.std.proofs.Common.{rules, arith, ◌≡◌, Some, true, subst, inl, inr}
use Rattle.std.proofs.lemmas.Grind.{common_steps}
use Rattle.std.proofs.lemmas.List.Elements.{All-push, All-pop}
use Rattle.host_core.specs.Stands.{Good}
use Rattle.host_loop.specs.Loops.{HasEnded, WasServed, WhereTold, is_ended}
use Rattle.host_loop.specs.Served.{Served}
use Rattle.host_loop.specs.declared.serve.LoopEnd.{LoopEnd}
use Rattle.host_loop.specs.declared.serve.LoopEnd.TheVariants.{Done, Spent}
use Rattle.host_loop.proofs.AnyLaws.{any_before, any_last}
use Rattle.host_loop.proofs.EndLaws.{has_ended}
use Rattle.host_loop.proofs.OrderLaws.{all_back, moved_back}
use Rattle.host_loop.proofs.lanes.empty.Goals as goal

pub loop-lane-preserved : goal.loop-lane-preserved
loop-lane-preserved g c =
    let K = g.C.Connection.kind in
    let site = c.args.site.now in
    let turns = c.args.turns in
    let lane = All-pop (λ x. WasServed (Good K site) turns x.end (g.O.Outside.trace x.out) × (is_ended x.end ≡ true)) c.loop-lane.lanes.items c.pop.new.self.items (Some c.in-Some.lane) c.in-Some.ensures.items c.loop-lane.invariant.left in
    let told = λ (e : LoopEnd) (is : c.in-Some.lane.end ≡ e). subst (λ x. WhereTold (Served turns x) (g.O.Outside.trace c.in-Some.lane.out)) is lane.1.0.served in
    record {
      count = search rules;
      room = search rules;
      left = lane.0;
      order = rw c.push_reserved.ensures.items (moved_back (λ x. x.out) c.loop-lane.outs.items _ c.loop-lane.lanes.items c.pop.new.self.items c.in-Some.lane c.in-Some.ensures.items c.loop-lane.invariant.order);
      good = rw c.push_reserved.ensures.items (All-push (λ o. WhereTold (Good K site) (g.O.Outside.trace o)) c.loop-lane.outs.items c.in-Some.lane.out c.loop-lane.invariant.good lane.1.0.good);
      each = rw c.push_reserved.ensures.items (All-push (λ o. WhereTold (HasEnded turns) (g.O.Outside.trace o)) c.loop-lane.outs.items c.in-Some.lane.out c.loop-lane.invariant.each (has_ended turns c.in-Some.lane.end (g.O.Outside.trace c.in-Some.lane.out) lane.1.1 lane.1.0.served));
      done = λ all. rw c.push_reserved.ensures.items (All-push (λ o. WhereTold (Served turns Done) (g.O.Outside.trace o)) c.loop-lane.outs.items c.in-Some.lane.out (c.loop-lane.invariant.done (c.worse-end.ensures.done all).0) (told Done (c.worse-end.ensures.done all).1));
      spent = λ some. rw c.push_reserved.ensures.items (elim (c.worse-end.ensures.spent some) [
        | inl before ↦ any_before (λ o. WhereTold (Served turns Spent) (g.O.Outside.trace o)) c.loop-lane.outs.items c.in-Some.lane.out (c.loop-lane.invariant.spent before)
        | inr now ↦ any_last (λ o. WhereTold (Served turns Spent) (g.O.Outside.trace o)) c.loop-lane.outs.items c.in-Some.lane.out (told Spent now)
      ]);
      ended = c.worse-end.ensures.ended;
    }

pub returns-clause-order : goal.returns-clause-order
returns-clause-order g c = all_back (λ x. x.out) c.loop-lane.outs.items _ c.loop-lane.lanes.items (first_of (search rules, grind (arith, common_steps))) c.loop-lane.invariant.order
