-- How an outside in memory goes through its list.
use Rattle.std.specs.Prelude.{ℕ, ◌≡◌, false, List, [], ◌∷◌, ◌++◌}
use Rattle.host_trace.specs.declared.items.Event.{Event}
use Rattle.host_trace.specs.declared.items.Item.{Item}
use Rattle.host_trace.specs.declared.items.Item.TheVariants.{In, Out}
use Rattle.memory_world.specs.NextEvent.{next_event, left_listed}

-- the events of items
abbrev pub events_of : List Item → List Event
events_of [] = []
events_of (In event ∷ items) = event ∷ events_of items
events_of (Out act ∷ items) = events_of items

-- the event that the list names at each event of the items, by what stands before it
abbrev pub named : ℕ → List Item → List Item → List Event → List Event
named limit before [] listed = []
named limit before (In event ∷ items) listed = next_event false limit before listed ∷ named limit (before ++ In event ∷ []) items (left_listed false limit before listed)
named limit before (Out act ∷ items) listed = named limit (before ++ Out act ∷ []) items listed

-- what is left of the list after the items
abbrev pub left_after : ℕ → List Item → List Item → List Event → List Event
left_after limit before [] listed = listed
left_after limit before (In event ∷ items) listed = left_after limit (before ++ In event ∷ []) items (left_listed false limit before listed)
left_after limit before (Out act ∷ items) listed = left_after limit (before ++ Out act ∷ []) items listed

-- the events of a trace are those that the list names
abbrev pub Takes : ℕ → List Event → List Item → Type 0
Takes limit listed T = events_of T ≡ named limit [] T listed

-- .. and this is left of it
abbrev pub Leaves : ℕ → List Event → List Item → List Event → Type 0
Leaves limit listed T left = left ≡ left_after limit [] T listed
