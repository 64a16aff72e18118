use Rattle.std.proofs.Common.{◌≤◌, ◌+◌, ◌∙◌, sym, ap, arith, refl, vec_len, vec_capacity, Some}
use Rattle.child_table.specs.declared.places.Place.{Place}
use Rattle.child_table.proofs.PlaceLaws.{SetsKeys, rising_insert, sets_insert, done_for_room, key_found}
use Rattle.child_table.proofs.RowLaws.{row_there, sets_more, held_more, apart_more}
use Rattle.child_table.proofs.table.Table.put.Goals as goal

pub insert_reserved-key-requires : goal.insert_reserved-key-requires
insert_reserved-key-requires c =
    let same = c.args.self.now.same_len in
    let room = c.args.self.now.row_room in
    omega (arith, same, room, c.requires.room)

pub invariant_of-self : goal.invariant_of-self
invariant_of-self c =
    let t = c.args.self.now in
    let within : vec_len t.places ≤ t.cap = t.within in
    let room : t.cap ≤ vec_capacity t.places = t.room in
    let ok = done_for_room c.insert.result (vec_capacity t.places) (vec_len t.places) c.insert.ensures.full (omega (arith, room, c.requires.room)) in
    let f = rw c.deref.ensures.value at c.in-Err.ensures.absent in
    let items = rw ok at c.insert.ensures.items in
    let len = rw ok at c.insert.ensures.len in
    let key = c.insert_reserved-key.result in
    let place : Place = record { number = c.args.k; key = key } in
    let keys : SetsKeys t.places.items c.insert.new.self.items c.args.k (Some key) = rw items (sets_insert _ _ _ f place refl) in
    let free = c.insert_reserved-key.ensures.was_vacant in
    let rows = c.insert_reserved-key.ensures.updates in
    let more = c.insert_reserved-key.ensures.len in
    let row_room : t.cap ≤ c.insert_reserved-key.new.self.capacity = let room = t.row_room in let same = c.insert_reserved-key.ensures.capacity in omega (arith, room, same) in
    let new_room : t.cap ≤ vec_capacity c.insert.new.self = omega (arith, c.insert.ensures.capacity, room) in
    record {
      rising = rw items (rising_insert _ _ _ f place refl t.rising);
      held = held_more t.places.items t.rows t.held t.apart c.args.k c.insert.new.self.items c.insert_reserved-key.new.self key c.row_for.result keys free rows.changed rows.others;
      apart = apart_more t.places.items t.rows t.held t.apart c.args.k c.insert.new.self.items c.insert_reserved-key.new.self key c.row_for.result keys free rows.changed rows.others;
      within = omega (arith, len, c.requires.room);
      room = new_room;
      same_len = more ∙ (ap (λ n. n + 1) t.same_len ∙ sym len);
      row_room = row_room;
    }

pub returns-in-Ok-clause-sets : goal.returns-in-Ok-clause-sets
returns-in-Ok-clause-sets c =
    let t = c.args.self.now in
    let f = rw c.deref.ensures.value at c.in-Ok.ensures.found in
    absurd (row_there t.places.items t.rows c.args.k _ t.held (key_found t.places.items t.rising c.args.k _ f) c.requires.absent)

pub returns-in-Ok-clause-len : goal.returns-in-Ok-clause-len
returns-in-Ok-clause-len c =
    let t = c.args.self.now in
    let f = rw c.deref.ensures.value at c.in-Ok.ensures.found in
    absurd (row_there t.places.items t.rows c.args.k _ t.held (key_found t.places.items t.rising c.args.k _ f) c.requires.absent)

pub returns-in-Err-clause-sets : goal.returns-in-Err-clause-sets
returns-in-Err-clause-sets c =
    let t = c.args.self.now in
    let room : t.cap ≤ vec_capacity t.places = t.room in
    let ok = done_for_room c.insert.result (vec_capacity t.places) (vec_len t.places) c.insert.ensures.full (omega (arith, room, c.requires.room)) in
    let f = rw c.deref.ensures.value at c.in-Err.ensures.absent in
    let items = rw ok at c.insert.ensures.items in
    let key = c.insert_reserved-key.result in
    let place : Place = record { number = c.args.k; key = key } in
    let keys : SetsKeys t.places.items c.insert.new.self.items c.args.k (Some key) = rw items (sets_insert _ _ _ f place refl) in
    let free = c.insert_reserved-key.ensures.was_vacant in
    let rows = c.insert_reserved-key.ensures.updates in
    sets_more t.places.items t.rows t.held t.apart c.args.k c.insert.new.self.items c.insert_reserved-key.new.self key _ keys free (rows.changed ∙ ap Some c.row_for.ensures) rows.others
