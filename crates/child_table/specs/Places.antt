-- Places by rising number.
use Rattle.std.specs.Prelude.{ℕ, ◌≡◌, ◌<◌, ◌≤◌, List, length, slice_index_or}
use Rattle.child_table.specs.declared.places.Place.{Place}

abbrev pub no_place : Place
no_place = record { number = 0; key = 0 }

abbrev pub number_at : List Place → ℕ → ℕ
number_at places i = let place = slice_index_or places i no_place in place.number

abbrev pub IsRising : List Place → Type 0
IsRising places = (i j : ℕ) → i < j → j < length places → number_at places i < number_at places j

pub record IsAtPlace (places : List Place) (k i : ℕ) : Type 0 where
  pub in_range : i < length places
  pub has_number : number_at places i ≡ k

pub record IsGapForPlace (places : List Place) (k i : ℕ) : Type 0 where
  pub in_range : i ≤ length places
  pub smaller_before : (j : ℕ) → j < i → number_at places j < k
  pub greater_after : (j : ℕ) → i ≤ j → j < length places → k < number_at places j
