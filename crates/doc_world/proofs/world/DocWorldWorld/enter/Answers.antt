-- One entry more, and what was given back is served still.
use Rattle.std.proofs.Common.{◌≡◌, ◌∙◌, List, Option, Some, refl, map, slice_index_or}
use Rattle.host_base.specs.declared.site.DocRoot.{DocRoot}
use Rattle.host_trace.specs.Entries.{entry_of}
use Rattle.doc_world.specs.Given.{items_of}
use Rattle.doc_world.proofs.GivenLaws.{entered_still, entered_now, is_new, serves_still}
use Rattle.doc_world.proofs.world.DocWorldWorld.enter.Goals as goal

pub invariant_of-self : goal.invariant_of-self
invariant_of-self g c =
    let entry = entry_of c.args.mode c.args.site.now c.args.loops in
    record {
      entered = entered_still c.args.self.now.entries c.with-self.result entry c.args.self.now.folders c.with-self.ensures c.args.self.now.entered;
      serves =
          serves_still _ _ c.args.self.now.entries c.with-self.result entry c.args.self.now.given.items _ c.args.self.now.tells (g.W.World.given c.args.self.now.world) _
          refl c.with-self.ensures refl refl c.args.self.now.serves;
    }

pub invariant_of-self-then-is_err : goal.invariant_of-self-then-is_err
invariant_of-self-then-is_err g c =
    let entry = entry_of c.args.mode c.args.site.now c.args.loops in
    record {
      entered = entered_now c.args.self.now.entries c.with-self.result entry c.in-Ok.folders c.with-self.ensures c.in-Ok.ensures;
      serves =
          serves_still _ _ c.args.self.now.entries c.with-self.result entry c.args.self.now.given.items _ c.args.self.now.tells (g.W.World.given c.args.self.now.world) _
          refl c.with-self.ensures c.make_room.ensures refl c.args.self.now.serves;
    }

pub invariant_of-self-in_default-prepare : goal.invariant_of-self-in_default-prepare
invariant_of-self-in_default-prepare g c =
    let entry = entry_of c.args.mode c.args.site.now c.args.loops in
    record {
      entered = entered_now c.args.self.now.entries c.with-self.result entry c.in-Ok.folders c.with-self.ensures c.in-Ok.ensures;
      serves =
          serves_still _ _ c.args.self.now.entries c.with-self.result entry c.args.self.now.given.items _ c.args.self.now.tells (g.W.World.given c.args.self.now.world) _
          c.prepare.ensures.same c.with-self.ensures c.make_room.ensures refl c.args.self.now.serves;
    }

pub invariant_of-self-in-Ok-enter : goal.invariant_of-self-in-Ok-enter
invariant_of-self-in-Ok-enter g c =
    let entry = entry_of c.args.mode c.args.site.now c.args.loops in
    record {
      entered = entered_now c.args.self.now.entries c.with-self.result entry c.in-Ok.folders c.with-self.ensures c.in-Ok.ensures;
      serves =
          serves_still _ _ c.args.self.now.entries c.with-self.result entry c.args.self.now.given.items _ c.args.self.now.tells (g.W.World.given c.args.self.now.world) _
          c.prepare.ensures.same c.with-self.ensures c.make_room.ensures c.enter.ensures.given c.args.self.now.serves;
    }

pub invariant_of-self-in-Err : goal.invariant_of-self-in-Err
invariant_of-self-in-Err g c =
    let entry = entry_of c.args.mode c.args.site.now c.args.loops in
    record {
      entered = entered_now c.args.self.now.entries c.with-self.result entry c.in-Ok.folders c.with-self.ensures c.in-Ok.ensures;
      serves =
          serves_still _ _ c.args.self.now.entries c.with-self.result entry c.args.self.now.given.items _ c.args.self.now.tells (g.W.World.given c.args.self.now.world) _
          (c.give_back.ensures ∙ c.prepare.ensures.same) c.with-self.ensures c.make_room.ensures c.enter.ensures.given c.args.self.now.serves;
    }

pub returns-in-Ok-enter-clause-told : goal.returns-in-Ok-enter-clause-told
returns-in-Ok-enter-clause-told g c = λ k d lt.
    let told = c.wrap.ensures.told k d lt in
    let new = c.wrap.ensures.new (g.W.World.given c.args.self.now.world) c.in-Ok-enter.ensures.told k d lt in
    let one = slice_index_or c.wrap.result.items k d in
    is_new c.args.self.now.tells (map items_of c.args.self.now.given.items) (g.W.World.given c.args.self.now.world) one.told (g.W.Out.Outside.trace one.inner) new told.0 told.1

pub returns-in-Ok-enter-clause-limit : goal.returns-in-Ok-enter-clause-limit
returns-in-Ok-enter-clause-limit g c = λ k d lt. (c.wrap.ensures.told k d lt).2
