-- The row of a child, and what a call makes of it.
use Rattle.std.specs.Prelude.{◌≡◌, ℕ, ◌==◌, ◌||◌, ◌&&◌, Bool, true, false, List, [], ◌∷◌, if◌then◌else◌, Some, None, Option, is_some, option_and_then}
use Rattle.slab.specs.Slab.{Slab, get}
use Rattle.child_table.specs.declared.places.Place.{Place}
use Rattle.child_table.specs.declared.row.Row.{Row}
use Rattle.child_table.specs.declared.mark.Mark.{Mark}
use Rattle.child_table.specs.declared.mark.Mark.TheVariants.{Started, NotStarted, InputEnded, OutputEnded, Exited}

-- ---- one child

abbrev pub new_row : ℕ → Row
new_row owner = record { owner = owner; started = false; not_started = false; input_ended = false; output_ended = false; exited = false }

abbrev pub marked : Mark → Row → Row
marked Started row = record row { started = true }
marked NotStarted row = record row { not_started = true }
marked InputEnded row = record row { input_ended = true }
marked OutputEnded row = record row { output_ended = true }
marked Exited row = record row { exited = true }

-- it could not be started, or it was reaped, its input ended and its output ended
abbrev pub is_settled : Row → Bool
is_settled row = row.not_started || row.exited && row.input_ended && row.output_ended

-- ---- all children

-- the key at the first place with this number
abbrev pub key_in : List Place → ℕ → Option ℕ
key_in [] k = None
key_in (place ∷ rest) k = if place.number == k then Some place.key else key_in rest k

abbrev pub row_in : List Place → Slab Row → ℕ → Option Row
row_in places rows k = option_and_then (get rows) (key_in places k)

-- each place has a row, and no two have one row
abbrev pub AreHeld : List Place → Slab Row → Type 0
AreHeld places rows = (k key : ℕ) → key_in places k ≡ Some key → is_some (get rows key) ≡ true

abbrev pub AreApart : List Place → Type 0
AreApart places = (j k key : ℕ) → key_in places j ≡ Some key → key_in places k ≡ Some key → j ≡ k
