use Rattle.std.proofs.Common.{◌∙◌, ◌≤◌, sym, ap, is_some, arith}
use Rattle.std.specs.Prelude.{option_and_then}
use Rattle.slab.specs.Slab.{get}
use Rattle.child_table.specs.Rows.{marked}
use Rattle.child_table.proofs.RowLaws.{sets_mapped, held_mapped, held_key, sets_unmarked}
use Rattle.child_table.proofs.table.Table.mark.Goals as goal

pub mark_row-requires : goal.mark_row-requires
mark_row-requires c = held_key _ (c.args.self.now.held c.args.k _ (sym c.key_of.ensures ∙ c.in-Some.is))

pub invariant_of-self : goal.invariant_of-self
invariant_of-self c =
    let t = c.args.self.now in
    let at = sym c.key_of.ensures ∙ c.in-Some.is in
    let row_room : t.cap ≤ c.mark_row.new.rows.capacity = let room = t.row_room in let same = c.mark_row.ensures.capacity in omega (arith, room, same) in
    record {
      rising = t.rising;
      held = held_mapped t.places.items t.rows t.held t.apart c.args.k c.mark_row.new.rows c.in-Some.key at c.mark_row.ensures.others (marked c.args.mark) c.mark_row.ensures.changed;
      apart = t.apart;
      within = t.within;
      room = t.room;
      same_len = c.mark_row.ensures.len ∙ t.same_len;
      row_room = row_room;
    }

pub returns-in-Some-clause-held : goal.returns-in-Some-clause-held
returns-in-Some-clause-held c =
    let at = sym c.key_of.ensures ∙ c.in-Some.is in
    sym (ap (λ o. is_some (option_and_then (get c.args.self.now.rows) o)) at ∙ c.args.self.now.held c.args.k _ at)

pub returns-in-Some-clause-marks : goal.returns-in-Some-clause-marks
returns-in-Some-clause-marks c =
    let t = c.args.self.now in
    sets_mapped t.places.items t.rows t.held t.apart c.args.k c.mark_row.new.rows c.in-Some.key (sym c.key_of.ensures ∙ c.in-Some.is) c.mark_row.ensures.others (marked c.args.mark) c.mark_row.ensures.changed

pub returns-in-None-clause-held : goal.returns-in-None-clause-held
returns-in-None-clause-held c = sym (ap (λ o. is_some (option_and_then (get c.args.self.now.rows) o)) (sym c.key_of.ensures ∙ c.in-None.is))

pub returns-in-None-clause-marks : goal.returns-in-None-clause-marks
returns-in-None-clause-marks c =
    let t = c.args.self.now in
    sets_unmarked t.places.items t.rows c.args.k (marked c.args.mark) (sym c.key_of.ensures ∙ c.in-None.is)
