-- One more is given back.
use Rattle.std.proofs.Common.{◌≡◌, ◌∙◌, ◌∷◌, ◌++◌, [], true, List, Option, Some, map, refl, sym, ap, subst, arith}
use Rattle.std.specs.Vec.Iter.{into_iter_items}
use Rattle.host_trace.specs.Told.{Joins}
use Rattle.doc_files.specs.Both.{both, given_by}
use Rattle.doc_files.specs.Served.{ServesWhere}
use Rattle.doc_world.specs.Given.{items_of}
use Rattle.doc_world.proofs.GivenLaws.{empty_of, joins_none, joins_one, joins_step, serves_one}
use Rattle.doc_world.proofs.world.DocWorldWorld.leave.Goals as goal

pub invariant_of-self-in-Some : goal.invariant_of-self-in-Some
invariant_of-self-in-Some g c =
    let part = c.into_parts-inner.ensures in
    let before = g.W.World.given c.loop-out.self.world in
    let joined =
    subst (λ l. Joins before (map (λ o. g.W.Out.Outside.trace o) l) (g.W.World.given c.leave.new.self)) c.alone.ensures.items c.leave.ensures.given in
    let serves : ServesWhere (g.D.DocStore.held c.into_parts-inner.result.store) c.into_parts-inner.result.docs (both c.into_parts-inner.result.told (g.W.Out.Outside.trace c.into_parts-inner.result.inner))
    = rw (part.store, part.docs, part.told, part.inner) part.serves in
    record {
      entered = c.loop-out.self.entered;
      serves =
          serves_one (g.D.DocStore.held c.loop-out.self.docs) _ (g.D.DocStore.held c.into_parts-inner.result.store) c.loop-out.self.entries c.loop-out.self.folders c.into_parts-inner.result.docs
          c.loop-out.self.tells c.keep-self.result c.keep-self.result c.is_ours-ours.result c.loop-out.self.given.items c.keep-self.new.given.items before _
          c.into_parts-inner.result.told (g.W.Out.Outside.trace c.into_parts-inner.result.inner)
          c.loop-out.self.serves c.take_back.ensures.same c.loop-out.self.entered
          (λ kept. ((c.keep-self.ensures.kept kept).0, kept))
          (λ kept. let k = c.keep-self.ensures.kept kept in (k.1, k.2, k.3))
          c.keep-self.ensures.items c.is_ours-ours.ensures joined serves;
    }

pub loop-out-preserved : goal.loop-out-preserved
loop-out-preserved g c =
    let was = c.loop-out.invariant in
    let part = c.into_parts-inner.ensures in
    let before = g.W.World.given c.loop-out.self.world in
    let joined =
    subst (λ l. Joins before (map (λ o. g.W.Out.Outside.trace o) l) (g.W.World.given c.leave.new.self)) c.alone.ensures.items c.leave.ensures.given in
    let same : both c.into_parts-inner.result.told (g.W.Out.Outside.trace c.into_parts-inner.result.inner) ≡ both c.in-Some.out.told (g.W.Out.Outside.trace c.in-Some.out.inner)
    = rw (part.told, part.inner) refl in
    let one =
    joins_one c.loop-out.self.tells c.keep-self.result (map items_of c.loop-out.self.given.items) (map items_of c.keep-self.new.given.items) before (g.W.World.given c.leave.new.self)
    c.into_parts-inner.result.told (g.W.Out.Outside.trace c.into_parts-inner.result.inner) joined
    (λ kept. let k = c.keep-self.ensures.kept kept in (k.0, k.2, k.3)) in
    record {
      joins = λ after more.
          was.joins after
          (joins_step (λ o. both o.told (g.W.Out.Outside.trace o.inner)) c.in-Some.out (into_iter_items c.next.new.self) (into_iter_items c.loop-out.outs) _ _ after c.in-Some.ensures.items
          (subst (λ t. Joins (given_by c.loop-out.self.tells (map items_of c.loop-out.self.given.items) before) (t ∷ []) (given_by c.keep-self.result (map items_of c.keep-self.new.given.items) (g.W.World.given c.leave.new.self))) same one) more);
      entries = was.entries;
      out = omega (arith, was.out, c.leave.ensures.out, c.alone.ensures.len, c.in-Some.ensures.len);
      room = omega (arith, was.room, c.leave.ensures.out, c.alone.ensures.len, c.in-Some.ensures.len);
      faults = omega (arith, was.faults, c.leave.ensures.faults);
    }

pub returns-clause-given : goal.returns-clause-given
returns-clause-given g c =
    let now = given_by c.loop-out.self.tells (map items_of c.loop-out.self.given.items) (g.W.World.given c.loop-out.self.world) in
    let before = given_by c.args.self.now.tells (map items_of c.args.self.now.given.items) (g.W.World.given c.args.self.now.world) in
    let none : into_iter_items c.loop-out.outs ≡ [] = empty_of (into_iter_items c.loop-out.outs) (omega (arith, c.in_default.ensures.cases.0, c.loop-out.outs.rest.ok.0)) in
    subst (λ l. Joins before (map (λ o. both o.told (g.W.Out.Outside.trace o.inner)) l) now) c.into_iter-outs.ensures.rest
    (c.loop-out.invariant.joins now
    (subst (λ l. Joins now (map (λ o. both o.told (g.W.Out.Outside.trace o.inner)) l) now) (sym none) (joins_none now)))

pub returns-clause-out : goal.returns-clause-out
returns-clause-out g c = omega (arith, c.loop-out.invariant.out, c.into_iter-outs.ensures.len, c.in_default.ensures.cases.0)
