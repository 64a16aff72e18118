-- A trace that is kept beside that of an inner outside, and is told where both are.
use Rattle.std.specs.Prelude.{ℕ, ◌≡◌, ◌≤◌, Bool, true, false, ◌==◌, List, Option, Some, None, if◌then◌else◌}
use Rattle.host_trace.specs.declared.items.Event.{Event}
use Rattle.host_trace.specs.declared.items.Event.TheVariants.{StartFull}
use Rattle.host_trace.specs.declared.items.Item.{Item}
use Rattle.host_base.specs.Outsides.{Rose}
use Rattle.host_trace.specs.Told.{is_failure, is_full_book}
use Rattle.doc_files.specs.declared.told.Told.{Told}

abbrev pub both_by : Bool → List Item → Option (List Item) → Option (List Item)
both_by tells items None = None
both_by tells items (Some inner) = if tells then Some items else None

abbrev pub both : Told → Option (List Item) → Option (List Item)
both told inner = both_by told.tells told.items.items inner

-- a full book has seen so many; no other event looks at the limit
abbrev pub is_of_limit : ℕ → Event → Bool
is_of_limit limit (StartFull k seen) = seen == limit
is_of_limit limit _ = true

-- how many children ran, where the event says it
abbrev pub seen_by : Event → ℕ
seen_by (StartFull k seen) = seen
seen_by _ = 0

-- an event that comes of a store alone: it is a failure only where the store's count rose, which never falls
pub record IsDue {D : Type 0} (faults : D → ℕ) (old new : D) (event : Event) : Type 0 where
  pub count : faults old ≤ faults new
  pub failure : is_failure event ≡ true → Rose (faults old) (faults new)
  pub no_book : is_full_book event ≡ false

-- the traces given back to a world over an inner one, which it tells where the inner one does and all were kept
abbrev pub given_by : Bool → List (List Item) → Option (List (List Item)) → Option (List (List Item))
given_by tells kept None = None
given_by tells kept (Some inner) = if tells then Some kept else None
