-- Variables of an environment, and the text that one may have.
use Rattle.std.specs.Prelude.{ℕ, Bool, ◌||◌, List, [], ◌∷◌, ◌++◌, map, length, filter, if◌then◌else◌, nat_lt, codes, encode_utf8}
use Rattle.std.specs.List.{flat_map}
use Rattle.std.specs.Str.{bytes_eq, is_utf8}
use Rattle.httparse.specs.Grammar.{trim_ows}
use Rattle.host_base.specs.declared.launch.Pair.{Pair}

abbrev pub pair : List ℕ → List ℕ → Pair
pair name value = record { name = name; value = value }

abbrev pub is_filled : List ℕ → Bool
is_filled value = nat_lt 0 (length value)

-- a variable whose value is empty is left out, but not QUERY_STRING (RFC 3875 4.1 and 4.1.7)
abbrev pub is_kept : Pair → Bool
is_kept p = is_filled p.value || bytes_eq p.name (codes "QUERY_STRING")

-- bytes that are no UTF-8 are read as ISO 8859-1, whose characters are those of the same number (RFC 9110 5.5)
abbrev pub as_text : List ℕ → List ℕ
as_text bytes = if is_utf8 bytes then bytes else flat_map encode_utf8 bytes

-- a value as a text, without the blanks around it
abbrev pub value_text : List ℕ → List ℕ
value_text value = as_text (trim_ows value)

-- texts in a row, with a separator between each two
abbrev pub joined : List ℕ → List (List ℕ) → List ℕ
joined separator [] = []
joined separator (text ∷ []) = text
joined separator (text ∷ next ∷ more) = text ++ separator ++ joined separator (next ∷ more)

-- the values of a field as one text, each without blanks around it; empty ones are not joined (RFC 9110 5.3)
abbrev pub joined_values : List ℕ → List (List ℕ) → List ℕ
joined_values separator values = joined separator (map as_text (filter is_filled (map trim_ows values)))
