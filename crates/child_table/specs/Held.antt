-- The children that a table holds, and what a call makes of them.
use Rattle.std.specs.Prelude.{◌≡◌, ℕ, ◌==◌, Bool, false, List, if◌then◌else◌, Option, vec_len}
use Rattle.std.specs.Option.{option_map, option_map_or}
use Rattle.slab.specs.Slab.{Slab}
use Rattle.child_table.specs.declared.places.Place.{Place}
use Rattle.child_table.specs.declared.row.Row.{Row}
use Rattle.child_table.specs.declared.table.Table.{Table}
use Rattle.child_table.specs.Rows.{row_in, is_settled}

-- what is kept of child k, where it is held
abbrev pub row_of : Table → ℕ → Option Row
row_of t k = row_in t.places.items t.rows k

abbrev pub owner_of : Table → ℕ → Option ℕ
owner_of t k = option_map (λ row. row.owner) (row_of t k)

-- it is held and settled
abbrev pub is_settled_in : Table → ℕ → Bool
is_settled_in t k = option_map_or is_settled (row_of t k) false

abbrev pub table_len : Table → ℕ
table_len t = vec_len t.places

abbrev pub cap_of : Table → ℕ
cap_of t = t.cap

-- the new rows have this at k, and at every other number what the old ones have
abbrev pub SetsRow : List Place → Slab Row → List Place → Slab Row → ℕ → Option Row → Type 0
SetsRow places rows places' rows' k row = (j : ℕ) → row_in places' rows' j ≡ (if k == j then row else row_in places rows j)

abbrev pub Sets : Table → Table → ℕ → Option Row → Type 0
Sets old new k row = SetsRow old.places.items old.rows new.places.items new.rows k row
