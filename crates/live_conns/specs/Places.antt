-- Connections in a slab, in the order of their places.
use Rattle.std.specs.Prelude.{ℕ, ◌≡◌, ◌≢◌, ◌<◌, List, map, length, is_some, true, false, slice_index_or}
use Rattle.std.specs.List.{flat_map, All, AllPairs}
use Rattle.std.specs.Option.{option_to_list}
use Rattle.slab.specs.Slab.{Slab, get}
use Rattle.own_traces.specs.Whose.{has}
use Rattle.many_conns.specs.Kind.{Kind}
use Rattle.many_conns.specs.Lists.{numbers}
use Rattle.live_conns.specs.declared.place.Place.{Place}

abbrev pub number_in : Place → ℕ
number_in place = place.number

abbrev pub key_in : Place → ℕ
key_in place = place.key

abbrev pub numbers_in : List Place → List ℕ
numbers_in places = map number_in places

abbrev pub keys_in : List Place → List ℕ
keys_in places = map key_in places

-- ---- numbers

abbrev pub IsRising : List Place → Type 0
IsRising places = AllPairs (λ a b. number_in a < number_in b) places

pub record IsAtNumber (places : List Place) (c i : ℕ) : Type 0 where
  pub within : i < length places
  pub is : (d : Place) → number_in (slice_index_or places i d) ≡ c

abbrev pub LacksNumber : List Place → ℕ → Type 0
LacksNumber places c = has (numbers_in places) c ≡ false

-- ---- values in the order of keys

abbrev pub in_order : {T : Type 0} → Slab T → List ℕ → List T
in_order rows keys = flat_map (λ key. option_to_list (get rows key)) keys

-- each key has a value, and none stands twice
pub record AreKeys {T : Type 0} (rows : Slab T) (keys : List ℕ) : Type 0 where
  pub held : All (λ key. is_some (get rows key) ≡ true) keys
  pub differ : AllPairs (λ a b. a ≢ b) keys

-- ---- connections

-- each place has the number of the connection that lies there
abbrev pub AreNumbers : {C : Type 0} → Kind C → List Place → Slab C → Type 0
AreNumbers K places rows = numbers_in places ≡ numbers K (in_order rows (keys_in places))
