-- What holds of pairs, in the words of the standard.
use Rattle.std.specs.Prelude.{ℕ, ◌+◌, ◌/◌, ◌%◌, ◌<◌, Bool, true, false, List, [], ◌∷◌, ◌++◌, length, map, find, Some, ◌≡◌, if◌then◌else◌}
use Rattle.std.specs.List.{flat_map, list_any, AllByRecursion}
use Rattle.std.specs.Str.{bytes_eq}
use Rattle.host_base.specs.declared.fields.Field.{Field}
use Rattle.fcgi_records.specs.Pairs.{field_with, put, pairs_in}

-- ---- pairs as they may be written

-- a pair, and of each of its lengths whether it stands in four bytes
pub record Written : Type 0 where
  pub name : List ℕ
  pub value : List ℕ
  pub long_name : Bool
  pub long_value : Bool

-- one byte, or four with the high bit of the first set, the greatest first
abbrev pub length_bytes : Bool → ℕ → List ℕ
length_bytes false len = len ∷ []
length_bytes true len = (128 + len / 16777216) ∷ (len / 65536 % 256) ∷ (len / 256 % 256) ∷ (len % 256) ∷ []

-- one byte holds a length below 128
abbrev pub HasForm : Bool → ℕ → Type 0
HasForm false len = len < 128
HasForm true len = Unit {0}

abbrev pub IsWritten : Written → Type 0
IsWritten w = HasForm w.long_name (length w.name) × HasForm w.long_value (length w.value)

abbrev pub written_bytes : Written → List ℕ
written_bytes w = length_bytes w.long_name (length w.name) ++ length_bytes w.long_value (length w.value) ++ w.name ++ w.value

abbrev pub field_written : Written → Field
field_written w = field_with w.name w.value

-- Pairs are read as they were written, in either form of each length, and nothing else.
abbrev pub PairsAreRead : Type 0
PairsAreRead = (ws : List Written) → AllByRecursion IsWritten ws → pairs_in (flat_map written_bytes ws) ≡ Some (map field_written ws)

-- ---- one more pair

abbrev pub is_of_name : List ℕ → Field → Bool
is_of_name name f = bytes_eq name f.name

abbrev pub name_of : Field → List ℕ
name_of f = f.name

-- With one more pair its name has its value and each other name the value that it had, and a name that is there keeps its place.
pub record PutsLast (f : Field) (fields : List Field) : Type 0 where
  pub value : (name : List ℕ) → find (is_of_name name) (put f fields) ≡ (if bytes_eq name f.name then Some f else find (is_of_name name) fields)
  pub names : map name_of (put f fields) ≡ (if list_any (is_of_name f.name) fields then map name_of fields else map name_of fields ++ f.name ∷ [])

abbrev pub LastValueStands : Type 0
LastValueStands = (f : Field) (fields : List Field) → PutsLast f fields
