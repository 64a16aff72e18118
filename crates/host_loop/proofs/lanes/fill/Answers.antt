-- A core and an outside become a lane.
use Rattle.std.proofs.Common.{rules, arith, ◌≡◌, Some, ◌∙◌, sym, ap}
use Rattle.std.proofs.lemmas.Grind.{common_steps}
use Rattle.std.proofs.lemmas.List.Elements.{All-push, All-pop}
use Rattle.host_core.specs.Owners.{served}
use Rattle.host_loop.specs.Loops.{HasHeardNothing, IsFresh}
use Rattle.host_loop.proofs.CoreLaws.{heard_nothing}
use Rattle.host_loop.proofs.OrderLaws.{moved_in, none_left}
use Rattle.host_loop.proofs.lanes.fill.Goals as goal

pub loop-core-preserved : goal.loop-core-preserved
loop-core-preserved g c =
    let site = c.args.site.now in
    let core = All-pop (HasHeardNothing site) c.loop-core.cores.items c.pop.new.self.items (Some c.in-Some.core) c.in-Some.ensures.items c.loop-core.invariant.cores in
    let out = All-pop (λ o. IsFresh (g.O.Outside.trace o) × (g.O.Outside.limit o ≡ site.limits.children)) c.loop-core.outs.items c.take_last-out.new.self.items (Some c.take_last-out.result) c.take_last-out.ensures.items c.loop-core.invariant.outs in
    record {
      same = search rules;
      count = search rules;
      room = search rules;
      kept = search rules;
      order = rw c.push_reserved.ensures.items (moved_in (λ x. x.out) c.loop-core.outs.items c.take_last-out.new.self.items _ c.loop-core.lanes.items _ c.take_last-out.ensures.items c.loop-core.invariant.order);
      cores = core.0;
      outs = out.0;
      lanes = rw c.push_reserved.ensures.items (All-push (λ x. (served x.core ≡ site) × (HasHeardNothing (served x.core) x.core × (IsFresh (g.O.Outside.trace x.out) × (g.O.Outside.limit x.out ≡ (served x.core).limits.children)))) c.loop-core.lanes.items _ c.loop-core.invariant.lanes (core.1.site_is, (heard_nothing site c.in-Some.core core.1, (out.1.0, out.1.1 ∙ ap (λ s. s.limits.children) (sym core.1.site_is)))));
    }

pub returns-clause-order : goal.returns-clause-order
returns-clause-order g c = none_left (λ x. x.out) c.loop-core.outs.items c.args.outs.now.items c.loop-core.lanes.items (first_of (search rules, grind (arith, common_steps))) c.loop-core.invariant.order
