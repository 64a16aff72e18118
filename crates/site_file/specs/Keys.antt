-- What stands at a key of a site file's table, or its fault: Missing, WrongKind, OutOfRange, in this order.
use Rattle.std.specs.Prelude.{ℕ, ◌+◌, ℤ, pos, negsuc, Bool, true, ◌&&◌, nat_le, List, [], ◌∷◌, ◌++◌, length, Option, Some, None, option_map, option_and_then, Result, Ok, Err, codes, if◌then◌else◌}
use Rattle.std.specs.Fmt.{decimal}
use Rattle.toml.specs.Data.{Data, Items, no_items, item, Members, get_member, as_str, as_integer, as_array, as_table}
use Rattle.site_file.specs.declared.fault.SiteFault.{SiteFault}
use Rattle.site_file.specs.declared.fault.SiteFault.TheVariants.{Missing, WrongKind, OutOfRange}
use Rattle.site_file.specs.Steps.{◌>>=◌}

-- ---- values of one kind and range: `kind` gives the value of a kind

abbrev pub ranged : {A : Type 0} → (A → Bool) → List ℕ → Option A → Result A SiteFault
ranged range name None = Err (WrongKind name)
ranged range name (Some value) = if range value then Ok value else Err (OutOfRange name)

abbrev pub required_at : {A : Type 0} → (Data → Option A) → (A → Bool) → List ℕ → Option Data → Result A SiteFault
required_at kind range name None = Err (Missing name)
required_at kind range name (Some found) = ranged range name (kind found)

abbrev pub optional_at : {A : Type 0} → (Data → Option A) → (A → Bool) → A → List ℕ → Option Data → Result A SiteFault
optional_at kind range default name None = Ok default
optional_at kind range default name (Some found) = ranged range name (kind found)

-- a key that a table must have; the table stands at `place`, as `host[1].`
unfoldable pub required : {A : Type 0} → (Data → Option A) → (A → Bool) → List ℕ → Members → List ℕ → Result A SiteFault
required kind range place table key = required_at kind range (place ++ key) (get_member key table)

-- a key that a table may have, and what it means where the table doesn't have it
unfoldable pub optional : {A : Type 0} → (Data → Option A) → (A → Bool) → List ℕ → Members → List ℕ → A → Result A SiteFault
optional kind range place table key default = optional_at kind range default (place ++ key) (get_member key table)

abbrev pub any_value : {A : Type 0} → A → Bool
any_value value = true

-- ---- integers

abbrev pub number_within : ℕ → ℕ → List ℕ → Option ℤ → Result ℕ SiteFault
number_within least greatest name None = Err (WrongKind name)
number_within least greatest name (Some (pos n)) = if nat_le least n && nat_le n greatest then Ok n else Err (OutOfRange name)
number_within least greatest name (Some (negsuc n)) = Err (OutOfRange name)

abbrev pub required_number_at : ℕ → ℕ → List ℕ → Option Data → Result ℕ SiteFault
required_number_at least greatest name None = Err (Missing name)
required_number_at least greatest name (Some found) = number_within least greatest name (as_integer found)

abbrev pub optional_number_at : ℕ → ℕ → ℕ → List ℕ → Option Data → Result ℕ SiteFault
optional_number_at least greatest default name None = Ok default
optional_number_at least greatest default name (Some found) = number_within least greatest name (as_integer found)

-- an integer that a table must have, with its least and greatest value
unfoldable pub required_number : List ℕ → Members → List ℕ → ℕ → ℕ → Result ℕ SiteFault
required_number place table key least greatest = required_number_at least greatest (place ++ key) (get_member key table)

-- .. that a table may have, with its default
unfoldable pub optional_number : List ℕ → Members → List ℕ → ℕ → ℕ → ℕ → Result ℕ SiteFault
optional_number place table key least greatest default = optional_number_at least greatest default (place ++ key) (get_member key table)

-- ---- arrays of one kind

-- each item is of the kind
abbrev pub each_of : {A : Type 0} → (Data → Option A) → Items → Option (List A)
each_of kind no_items = Some []
each_of kind (item found rest) = option_and_then (λ value. option_map (λ values. value ∷ values) (each_of kind rest)) (kind found)

abbrev pub as_texts : Data → Option (List (List ℕ))
as_texts found = option_and_then (each_of as_str) (as_array found)

abbrev pub as_tables : Data → Option (List Members)
as_tables found = option_and_then (each_of as_table) (as_array found)

abbrev pub are_between : ℕ → ℕ → List Members → Bool
are_between least greatest tables = nat_le least (length tables) && nat_le (length tables) greatest

-- ---- tables in an array

-- where the table at an index stands, as `host[0].script[1].`
unfoldable pub entry : List ℕ → List ℕ → ℕ → List ℕ
entry place key index = place ++ (key ++ (codes "[" ++ (decimal index ++ codes "].")))

-- what each table says, from an index on, up to the first fault
unfoldable pub each_from : {A : Type 0} → (ℕ → Members → Result A SiteFault) → ℕ → List Members → Result (List A) SiteFault
each_from read index [] = Ok []
each_from read index (table ∷ tables) = do
  value ← read index table
  values ← each_from read (index + 1) tables
  Ok (value ∷ values)
