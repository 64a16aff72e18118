use Rattle.std.proofs.Common.{◌≡◌, ◌≤◌, ◌<◌, ◌+◌, ◌∙◌, sym, subst, length, vec_len, vec_capacity, arith, ap, None, List}
use Rattle.std.specs.Prelude.{slice_index_or}
use Rattle.slab.specs.Slab.{Updates, slab_len}
use Rattle.live_conns.specs.declared.place.Place.{Place}
use Rattle.live_conns.specs.Places.{AreKeys, AreNumbers, IsRising, in_order, keys_in}
use Rattle.live_conns.proofs.LiveLaws.{less_conns, less_keys, less_numbers, on_some, within}
use Rattle.live_conns.proofs.PlaceLaws.{rising_less}
use Rattle.live_conns.proofs.live.Live.remove.Goals as goal

pub invariant_of-self : goal.invariant_of-self
invariant_of-self g c =
    let K = g.C.Connection.kind in
    let t = c.args.self.now in
    let p = c.remove-place.result in
    let at : p ≡ slice_index_or t.places.items c.args.i p = c.remove-place.ensures.value in
    let lt : c.args.i < length t.places.items = within K t.places.items t.rows t.keys c.args.i c.requires in
    let items = c.remove-place.ensures.items in
    let u : Updates t.rows c.try_remove.new.self p.key None = c.try_remove.ensures.updates in
    let len : vec_len c.remove-place.new.self + 1 ≡ vec_len t.places = c.remove-place.ensures.len in
    let less : slab_len c.try_remove.new.self + 1 ≡ slab_len t.rows = on_some K t.places.items t.rows t.keys c.args.i p c.requires at c.try_remove.result c.try_remove.ensures.value c.try_remove.ensures.len in
    let same : slab_len t.rows ≡ vec_len t.places = t.same_len in
    let fits : vec_len t.places ≤ t.cap = t.within in
    let new_room : t.cap ≤ vec_capacity c.remove-place.new.self = let room = t.room in let same = c.remove-place.ensures.capacity in omega (arith, room, same) in
    let row_room : t.cap ≤ c.try_remove.new.self.capacity = let room = t.row_room in let same = c.try_remove.ensures.capacity in omega (arith, room, same) in
    let new_len : slab_len c.try_remove.new.self ≡ vec_len c.remove-place.new.self = omega (arith, len, less, same) in
    record {
      rising = subst IsRising (sym items) (rising_less t.places.items c.args.i t.rising lt);
      keys = subst (λ (l : List Place). AreKeys c.try_remove.new.self (keys_in l)) (sym items) (less_keys K t.places.items t.rows t.keys c.try_remove.new.self c.args.i p c.requires at u);
      numbers = subst (λ (l : List Place). AreNumbers K l c.try_remove.new.self) (sym items) (less_numbers K t.places.items t.rows t.keys c.try_remove.new.self c.args.i p c.requires at u t.numbers);
      within = omega (arith, len, fits);
      room = new_room;
      same_len = new_len;
      row_room = row_room;
    }

pub returns-clause-conns : goal.returns-clause-conns
returns-clause-conns g c =
    let K = g.C.Connection.kind in
    let t = c.args.self.now in
    let p = c.remove-place.result in
    ap (λ (l : List Place). in_order c.try_remove.new.self (keys_in l)) c.remove-place.ensures.items
    ∙ less_conns K t.places.items t.rows t.keys c.try_remove.new.self c.args.i p c.requires c.remove-place.ensures.value c.try_remove.ensures.updates
