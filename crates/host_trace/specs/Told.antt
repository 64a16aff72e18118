-- How a trace that is told grows, and what a world tells of the traces given back to it.
use Rattle.std.specs.Prelude.{ℕ, List, [], ◌∷◌, ◌++◌, ◌≡◌, Option, Some, None, Bool, true, false, if◌then◌else◌, map}
use Rattle.host_trace.specs.declared.items.Event.{Event}
use Rattle.host_trace.specs.declared.items.Event.TheVariants.{ClientGone, WsBad, StartFailed, StartFull, ChildBroken, InputGone}
use Rattle.host_trace.specs.declared.items.Act.{Act}
use Rattle.host_trace.specs.declared.items.Act.TheVariants.{Write, Start, Feed, Upgrade, Says}
use Rattle.host_trace.specs.declared.items.Item.{Item}
use Rattle.host_trace.specs.declared.items.Item.TheVariants.{In, Out}
use Rattle.host_trace.specs.declared.outside.Acted.{Acted}
use Rattle.host_trace.specs.declared.outside.Acted.TheVariants.{Done, NoRoom}
use Rattle.host_trace.specs.Fits.{fits}

-- what is told now is what was told before and the event, which fits
pub record HeardBy (limit : ℕ) (before : Option (List Item)) (event : Event) (now : List Item) : Type 0 where
  pub was : List Item
  pub told : before ≡ Some was
  pub grew : now ≡ was ++ In event ∷ []
  pub fits_then : fits limit was event ≡ true

-- where it tells afterwards, it told before, and the event that fits was added
abbrev pub Hears : ℕ → Option (List Item) → Event → Option (List Item) → Type 0
Hears limit before event after = (now : List Item) → after ≡ Some now → HeardBy limit before event now

-- what is told now is what was told before and these acts
pub record Added (before : Option (List Item)) (acts : List Act) (now : List Item) : Type 0 where
  pub was : List Item
  pub told : before ≡ Some was
  pub grew : now ≡ was ++ map Out acts

-- where it tells afterwards, it told before, and these acts were added
abbrev pub Adds : Option (List Item) → List Act → Option (List Item) → Type 0
Adds before acts after = (now : List Item) → after ≡ Some now → Added before acts now

-- .. and acts alone were added
abbrev pub AddsActs : Option (List Item) → Option (List Item) → Type 0
AddsActs before after = (now : List Item) → after ≡ Some now → (acts : List Act) × Added before acts now

-- what an act adds by what became of it
abbrev pub added_by : Act → Acted → List Act
added_by act Done = act ∷ []
added_by act NoRoom = []

abbrev pub ActsOn : Option (List Item) → Act → Acted → Option (List Item) → Type 0
ActsOn before act acted after = Adds before (added_by act acted) after

-- the act, where the test is true
abbrev pub when : Bool → Act → List Act
when test act = if test then act ∷ [] else []

-- an act without bytes, texts and launch
abbrev pub carries_nothing : Act → Bool
carries_nothing (Write c bytes) = false
carries_nothing (Start k c j hop launch) = false
carries_nothing (Feed k bytes) = false
carries_nothing (Upgrade c rest) = false
carries_nothing (Says c texts) = false
carries_nothing _ = true

-- the event comes only where something failed
abbrev pub is_failure : Event → Bool
is_failure (ClientGone c) = true
is_failure (WsBad c) = true
is_failure (StartFailed k) = true
is_failure (ChildBroken k) = true
is_failure (InputGone k) = true
is_failure _ = false

-- the event comes only where as many children ran as may
abbrev pub is_full_book : Event → Bool
is_full_book (StartFull k seen) = true
is_full_book _ = false

-- an outside that is new tells the empty trace, exactly where the world tells
abbrev pub IsNew : Option (List (List Item)) → Option (List Item) → Type 0
IsNew None trace = trace ≡ None
IsNew (Some given) trace = trace ≡ Some []

-- what is told now is what was told before and these traces, each of which is told
pub record JoinedTo (before : Option (List (List Item))) (traces : List (Option (List Item))) (now : List (List Item)) : Type 0 where
  pub was : List (List Item)
  pub added : List (List Item)
  pub told : before ≡ Some was
  pub each : traces ≡ map Some added
  pub grew : now ≡ was ++ added

-- where the world tells afterwards, it told before, and these traces were added
abbrev pub Joins : Option (List (List Item)) → List (Option (List Item)) → Option (List (List Item)) → Type 0
Joins before traces after = (now : List (List Item)) → after ≡ Some now → JoinedTo before traces now
