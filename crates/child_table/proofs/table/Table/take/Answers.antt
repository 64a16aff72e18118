use Rattle.std.proofs.Common.{◌≡◌, ◌≤◌, ◌+◌, arith, vec_len, vec_capacity, None, Some}
use Rattle.slab.specs.Slab.{slab_len}
use Rattle.child_table.specs.Rows.{key_in}
use Rattle.child_table.proofs.PlaceLaws.{SetsKeys, rising_remove, sets_remove, found-place, key_in_gap}
use Rattle.child_table.proofs.RowLaws.{row_gone, held_key, sets_less, held_less, apart_less}
use Rattle.child_table.proofs.table.Table.take.Goals as goal

pub remove-row-requires : goal.remove-row-requires
remove-row-requires c =
    let t = c.args.self.now in
    let f = rw c.deref.ensures.value at c.in-Ok.ensures.found in
    held_key _ (t.held c.args.k c.remove-place.result.key (found-place t.places.items t.rising c.args.k c.in-Ok.at c.remove-place.result f c.remove-place.ensures.value))

pub invariant_of-self : goal.invariant_of-self
invariant_of-self c =
    let t = c.args.self.now in
    let f = rw c.deref.ensures.value at c.in-Ok.ensures.found in
    let at : key_in t.places.items c.args.k ≡ Some c.remove-place.result.key = found-place t.places.items t.rising c.args.k c.in-Ok.at c.remove-place.result f c.remove-place.ensures.value in
    let keys : SetsKeys t.places.items c.remove-place.new.self.items c.args.k None = rw c.remove-place.ensures.items (sets_remove t.places.items t.rising c.args.k c.in-Ok.at f) in
    let rows = c.remove-row.ensures.updates in
    let len : vec_len c.remove-place.new.self + 1 ≡ vec_len t.places = c.remove-place.ensures.len in
    let less : slab_len c.remove-row.new.self + 1 ≡ slab_len t.rows = c.remove-row.ensures.len in
    let same : slab_len t.rows ≡ vec_len t.places = t.same_len in
    let within : vec_len t.places ≤ t.cap = t.within in
    let row_room : t.cap ≤ c.remove-row.new.self.capacity = let room = t.row_room in let same = c.remove-row.ensures.capacity in omega (arith, room, same) in
    let new_room : t.cap ≤ vec_capacity c.remove-place.new.self = let room = t.room in let same = c.remove-place.ensures.capacity in omega (arith, room, same) in
    let new_len : slab_len c.remove-row.new.self ≡ vec_len c.remove-place.new.self = omega (arith, len, less, same) in
    let new_within : vec_len c.remove-place.new.self ≤ t.cap = omega (arith, len, within) in
    record {
      rising = rw c.remove-place.ensures.items (rising_remove t.places.items t.rising c.args.k c.in-Ok.at f);
      held = held_less t.places.items t.rows t.held t.apart c.args.k c.remove-row.new.self c.remove-place.result.key at rows.others c.remove-place.new.self.items keys;
      apart = apart_less t.places.items t.rows t.held t.apart c.args.k c.remove-row.new.self c.remove-place.result.key at rows.others c.remove-place.new.self.items keys;
      within = new_within;
      room = new_room;
      same_len = new_len;
      row_room = row_room;
    }

pub returns-in-Ok-clause-gone : goal.returns-in-Ok-clause-gone
returns-in-Ok-clause-gone c =
    let t = c.args.self.now in
    let f = rw c.deref.ensures.value at c.in-Ok.ensures.found in
    let at : key_in t.places.items c.args.k ≡ Some c.remove-place.result.key = found-place t.places.items t.rising c.args.k c.in-Ok.at c.remove-place.result f c.remove-place.ensures.value in
    let keys : SetsKeys t.places.items c.remove-place.new.self.items c.args.k None = rw c.remove-place.ensures.items (sets_remove t.places.items t.rising c.args.k c.in-Ok.at f) in
    let rows = c.remove-row.ensures.updates in
    sets_less t.places.items t.rows t.held t.apart c.args.k c.remove-row.new.self c.remove-place.result.key at rows.others c.remove-place.new.self.items keys

pub returns-in-Err-clause-gone : goal.returns-in-Err-clause-gone
returns-in-Err-clause-gone c =
    let t = c.args.self.now in
    let f = rw c.deref.ensures.value at c.in-Err.ensures.absent in
    absurd (row_gone t.places.items t.rows c.args.k (key_in_gap t.places.items c.args.k _ f) c.requires)

pub returns-in-Err-clause-len : goal.returns-in-Err-clause-len
returns-in-Err-clause-len c =
    let t = c.args.self.now in
    let f = rw c.deref.ensures.value at c.in-Err.ensures.absent in
    absurd (row_gone t.places.items t.rows c.args.k (key_in_gap t.places.items c.args.k _ f) c.requires)
