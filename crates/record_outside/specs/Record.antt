-- What is kept of a trace: the text of its longest front of whole steps within two limits. A step is an event with the acts
-- that follow it.
use Rattle.std.specs.Prelude.{◌≡◌, ◌≤◌, ◌&&◌, ℕ, Bool, true, false, nat_le, List, [], ◌++◌, length, drop, Option, Some, string_bytes}
use Rattle.std.specs.List.{list_any}
use Rattle.host_trace.specs.declared.items.Item.{Item}
use Rattle.host_trace.specs.Kinds.{is_event}
use Rattle.trace_text.specs.Spelling.{begins_with_event, text_of}
use Rattle.record_outside.specs.declared.record.Record.{Record}

-- so many items, and bytes of their text
abbrev pub are_few : ℕ → ℕ → Bool
are_few items bytes = nat_le items 2048 && nat_le bytes 1048576

abbrev pub is_within : List Item → Bool
is_within items = are_few (length items) (length (text_of items))

-- the trace begins with these steps: what follows them begins with an event, or nothing follows
pub record IsFront (T front : List Item) : Type 0 where
  pub rest : List Item
  pub whole : T ≡ front ++ rest
  pub begins : begins_with_event rest ≡ true

-- the text of the longest front of whole steps within the limits
pub record IsRecord (T : List Item) (text : List ℕ) : Type 0 where
  pub items : List Item
  pub front : IsFront T items
  pub within : is_within items ≡ true
  pub spelled : text ≡ text_of items
  pub longest : (other : List Item) → IsFront T other → is_within other ≡ true → length other ≤ length items

-- at most one step: no event follows its first item
pub record IsStep (step : List Item) : Type 0 where
  pub begins : begins_with_event step ≡ true
  pub single : list_any is_event (drop 1 step) ≡ false

-- all of the trace is within the limits: whole steps, and the step that goes on
pub record IsOpen (T : List Item) (text step : List ℕ) (count : ℕ) : Type 0 where
  pub front : List Item
  pub last : List Item
  pub whole : T ≡ front ++ last
  pub is_step : IsStep last
  pub none : length last ≡ 0 → front ≡ []
  pub spelled : text ≡ text_of front
  pub goes_on : step ≡ text_of last
  pub counted : count ≡ length T
  pub within : is_within T ≡ true

-- the step after the whole ones is too much
pub record IsOver (T : List Item) (text : List ℕ) : Type 0 where
  pub front : List Item
  pub last : List Item
  pub more : List Item
  pub whole : T ≡ front ++ (last ++ more)
  pub is_step : IsStep last
  pub some : 1 ≤ length last
  pub spelled : text ≡ text_of front
  pub within : is_within front ≡ true
  pub past : is_within (front ++ last) ≡ false

abbrev pub KeepsBy : Bool → List Item → List ℕ → List ℕ → ℕ → Type 0
KeepsBy true T text step count = IsOver T text
KeepsBy false T text step count = IsOpen T text step count

-- the record is so far one of this trace, if that begins with an event (`∥ .. ∥₁` says that it is so, and not how)
abbrev pub Keeps : List Item → Record → Type 0
Keeps T r = begins_with_event T ≡ true → ∥ KeepsBy r.is_over T (string_bytes r.text) (string_bytes r.step) r.count ∥₁

-- .. of what is told
abbrev pub IsKept : Option (List Item) → Record → Type 0
IsKept told r = (T : List Item) → told ≡ Some T → Keeps T r

-- .. and the text is its record
abbrev pub Records : Option (List Item) → List ℕ → Type 0
Records told text = (T : List Item) → told ≡ Some T → begins_with_event T ≡ true → ∥ IsRecord T text ∥₁
