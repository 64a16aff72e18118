use Rattle.std.proofs.Common.{◌≡◌, ◌∙◌, sym, ap, Some, subst, List}
use Rattle.std.specs.Prelude.{slice_index_or}
use Rattle.std.proofs.lemmas.List.{get_or-set_same}
use Rattle.slab.specs.Slab.{Updates, with_value}
use Rattle.slab.proofs.SlabLemmas.{Updates-with_value}
use Rattle.live_conns.proofs.LiveLaws.{found, held, same_count, step_conns, step_keys, step_numbers}
use Rattle.host_base.specs.SiteRules.{IsServed}
use Rattle.live_conns.specs.Live.{conns_of}
use Rattle.live_conns.proofs.live.Live.step.Goals as goal
use Rattle.live_conns.proofs.LiveLaws.{some_same}

pub index_mut-requires : goal.index_mut-requires
index_mut-requires g c =
    let K = g.C.Connection.kind in
    let t = c.args.self.now in held K t.places.items t.rows t.keys c.args.i c.index.result.now c.requires.place c.index.ensures

pub step-requires-clause-served : goal.step-requires-clause-served
step-requires-clause-served g c =
    let K = g.C.Connection.kind in
    let t = c.args.self.now in
    let x = c.index_mut.result.now in
    let is : x ≡ slice_index_or (conns_of t) c.args.i x = some_same (sym c.index_mut.ensures.value ∙ found K t.places.items t.rows t.keys c.args.i c.index.result.now x c.requires.place c.index.ensures) in
    subst (λ y. IsServed (K.site_of y)) (sym is) (c.requires.served c.args.i x c.requires.place)

pub invariant_of-self : goal.invariant_of-self
invariant_of-self g c =
    let K = g.C.Connection.kind in
    let t = c.args.self.now in
    let p = c.index.result.now in
    let new = c.step.new.self in
    let u : Updates t.rows (with_value t.rows p.key new) p.key (Some new) = Updates-with_value t.rows p.key new (held K t.places.items t.rows t.keys c.args.i p c.requires.place c.index.ensures) in
    record {
      rising = t.rising;
      keys = step_keys K t.places.items t.rows t.keys (with_value t.rows p.key new) c.args.i p new c.requires.place c.index.ensures u;
      numbers = step_numbers K t.places.items t.rows t.keys (with_value t.rows p.key new) c.args.i p new c.requires.place c.index.ensures u c.index_mut.result.now c.index_mut.ensures.value c.step.ensures.gives.number t.numbers;
      within = t.within;
      room = t.room;
      same_len = same_count K t.rows p.key new (held K t.places.items t.rows t.keys c.args.i p c.requires.place c.index.ensures) ∙ t.same_len;
      row_room = t.row_room;
    }

pub returns-clause-steps : goal.returns-clause-steps
returns-clause-steps g c =
    let K = g.C.Connection.kind in
    let t = c.args.self.now in
    let p = c.index.result.now in
    let new = c.step.new.self in
    let u : Updates t.rows (with_value t.rows p.key new) p.key (Some new) = Updates-with_value t.rows p.key new (held K t.places.items t.rows t.keys c.args.i p c.requires.place c.index.ensures) in
    record {
      was = c.index_mut.result.now;
      now = new;
      at = some_same (sym c.index_mut.ensures.value ∙ found K t.places.items t.rows t.keys c.args.i p c.index_mut.result.now c.requires.place c.index.ensures);
      conns = step_conns K t.places.items t.rows t.keys (with_value t.rows p.key new) c.args.i p new c.requires.place c.index.ensures u;
      gives = c.step.ensures.gives;
    }

pub returns-clause-needs : goal.returns-clause-needs
returns-clause-needs g c d =
    let K = g.C.Connection.kind in
    let t = c.args.self.now in
    let p = c.index.result.now in
    let new = c.step.new.self in
    let u : Updates t.rows (with_value t.rows p.key new) p.key (Some new) = Updates-with_value t.rows p.key new (held K t.places.items t.rows t.keys c.args.i p c.requires.place c.index.ensures) in
    c.step.ensures.needs
    ∙ ap K.needs (sym (get_or-set_same _ c.args.i new d c.requires.place)
    ∙ ap (λ (l : List g.row.C.Denot). slice_index_or l c.args.i d) (sym (step_conns K t.places.items t.rows t.keys (with_value t.rows p.key new) c.args.i p new c.requires.place c.index.ensures u)))
