-- What an outside in memory is made of.
use Rattle.std.specs.Prelude.{ℕ, ◌≡◌, Bool, true, false, length, is_some, ◌&&◌, ◌==◌, not, List, [], map, Option, Some, None, if◌then◌else◌}
use Rattle.std.specs.List.{list_any}
use Rattle.host_trace.specs.declared.items.Event.{Event}
use Rattle.host_trace.specs.declared.items.Item.{Item}
use Rattle.memory_world.specs.declared.outside.MemoryOutside.{MemoryOutside}
use Rattle.memory_world.specs.ListedWords.{given_of}

-- the events still listed
abbrev pub listed_of : MemoryOutside → List Event
listed_of o = map given_of o.events.items

-- its items so far
abbrev pub items_of : MemoryOutside → List Item
items_of o = o.telling.trace.items.items

-- its trace, where it tells it; in the wild it never does
abbrev pub trace_of : MemoryOutside → Option (List Item)
trace_of o = if o.telling.tells && not o.wild then Some o.telling.trace.items.items else None

-- the next act is answered NoRoom, where it may be
abbrev pub refuses_now : MemoryOutside → Bool
refuses_now o = list_any (λ number. number == o.acts) o.refused.items

abbrev pub tells_of : MemoryOutside → Bool
tells_of o = is_some (trace_of o)

abbrev pub same_bool : Bool → Bool → Bool
same_bool true b = b
same_bool false b = not b

-- it has neither heard nor done anything, has this limit, and tells where `tells` is true
abbrev pub is_new_for : ℕ → Bool → MemoryOutside → Bool
is_new_for limit tells o = length (items_of o) == 0 && o.limit == limit && same_bool (is_some (trace_of o)) tells

-- it was just made with these acts to refuse, this room and this limit: nothing was heard, done or counted
pub record IsMade (refused : List ℕ) (room limit : ℕ) (wild : Bool) (o : MemoryOutside) : Type 0 where
  pub items : items_of o ≡ []
  pub refuses : o.refused.items ≡ refused
  pub acts : o.acts ≡ 0
  pub room_for : o.telling.room ≡ room
  pub children : o.limit ≡ limit
  pub is_wild : o.wild ≡ wild
  pub faults : o.faults ≡ 0
  pub full_books : o.full_books ≡ 0

-- what no call changes
pub record IsKept (old new : MemoryOutside) : Type 0 where
  pub refused : new.refused ≡ old.refused
  pub room : new.telling.room ≡ old.telling.room
  pub wild : new.wild ≡ old.wild
