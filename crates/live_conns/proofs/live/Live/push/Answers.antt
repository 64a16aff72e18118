use Rattle.std.proofs.Common.{◌≡◌, ◌≤◌, ◌+◌, ◌++◌, ◌∷◌, [], ◌∙◌, sym, subst, length, vec_len, vec_capacity, arith, ap, Some, List}
use Rattle.slab.specs.Slab.{Updates, slab_len}
use Rattle.live_conns.specs.declared.place.Place.{Place}
use Rattle.live_conns.specs.Places.{AreKeys, AreNumbers, IsRising, in_order, keys_in}
use Rattle.live_conns.proofs.LiveLaws.{below, count, more_conns, more_keys, more_numbers}
use Rattle.live_conns.proofs.PlaceLaws.{done_for_room, rising_push}
use Rattle.live_conns.proofs.live.Live.push.Goals as goal

pub insert_reserved-key-requires : goal.insert_reserved-key-requires
insert_reserved-key-requires g c =
    let K = g.C.Connection.kind in
    let t = c.args.self.now in
    let long : length (in_order t.rows (keys_in t.places.items)) ≡ length t.places.items = count K t.places.items t.rows t.keys in
    let vec : vec_len t.places ≡ length t.places.items = t.places.ok.0 in
    let same : slab_len t.rows ≡ vec_len t.places = t.same_len in
    let room : t.cap ≤ t.rows.capacity = t.row_room in
    omega (arith, c.requires.room, long, vec, same, room)

pub invariant_of-self : goal.invariant_of-self
invariant_of-self g c =
    let K = g.C.Connection.kind in
    let t = c.args.self.now in
    let key = c.insert_reserved-key.result in
    let p : Place = record { number = c.args.number; key = key } in
    let long : length (in_order t.rows (keys_in t.places.items)) ≡ length t.places.items = count K t.places.items t.rows t.keys in
    let vec : vec_len t.places ≡ length t.places.items = t.places.ok.0 in
    let cap : t.cap ≤ vec_capacity t.places = t.room in
    let ok = done_for_room c.push.result (vec_capacity t.places) (vec_len t.places) c.push.ensures.full (omega (arith, c.requires.room, long, vec, cap)) in
    let items : c.push.new.self.items ≡ t.places.items ++ p ∷ [] = rw ok at c.push.ensures.items in
    let len : vec_len c.push.new.self ≡ vec_len t.places + 1 = rw ok at c.push.ensures.len in
    let u : Updates t.rows c.insert_reserved-key.new.self key (Some c.args.conn) = c.insert_reserved-key.ensures.updates in
    let free = c.insert_reserved-key.ensures.was_vacant in
    let more : slab_len c.insert_reserved-key.new.self ≡ slab_len t.rows + 1 = c.insert_reserved-key.ensures.len in
    let same : slab_len t.rows ≡ vec_len t.places = t.same_len in
    let row_room : t.cap ≤ c.insert_reserved-key.new.self.capacity = let room = t.row_room in let kept = c.insert_reserved-key.ensures.capacity in omega (arith, room, kept) in
    let new_room : t.cap ≤ vec_capacity c.push.new.self = omega (arith, c.push.ensures.capacity, cap) in
    record {
      rising = subst IsRising (sym items) (rising_push t.places.items p t.rising (below K t.places.items t.rows t.keys t.numbers c.args.number c.requires.above));
      keys = subst (λ (l : List Place). AreKeys c.insert_reserved-key.new.self (keys_in l)) (sym items) (more_keys K t.places.items t.rows t.keys c.insert_reserved-key.new.self p c.args.conn free u);
      numbers = subst (λ (l : List Place). AreNumbers K l c.insert_reserved-key.new.self) (sym items) (more_numbers K t.places.items t.rows t.keys c.insert_reserved-key.new.self p c.args.conn free u c.requires.number t.numbers);
      within = omega (arith, len, c.requires.room, long, vec);
      room = new_room;
      same_len = omega (arith, more, same, len);
      row_room = row_room;
    }

pub returns-clause-conns : goal.returns-clause-conns
returns-clause-conns g c =
    let K = g.C.Connection.kind in
    let t = c.args.self.now in
    let key = c.insert_reserved-key.result in
    let p : Place = record { number = c.args.number; key = key } in
    let long : length (in_order t.rows (keys_in t.places.items)) ≡ length t.places.items = count K t.places.items t.rows t.keys in
    let vec : vec_len t.places ≡ length t.places.items = t.places.ok.0 in
    let cap : t.cap ≤ vec_capacity t.places = t.room in
    let ok = done_for_room c.push.result (vec_capacity t.places) (vec_len t.places) c.push.ensures.full (omega (arith, c.requires.room, long, vec, cap)) in
    let items : c.push.new.self.items ≡ t.places.items ++ p ∷ [] = rw ok at c.push.ensures.items in
    ap (λ (l : List Place). in_order c.insert_reserved-key.new.self (keys_in l)) items
    ∙ more_conns K t.places.items t.rows t.keys c.insert_reserved-key.new.self p c.args.conn c.insert_reserved-key.ensures.was_vacant c.insert_reserved-key.ensures.updates
