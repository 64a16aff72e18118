-- Values by their names, as those of an environment (RFC 3875 4.1) and of a table of media types.
use Rattle.std.specs.Prelude.{ℕ, Bool, List, find, Option, option_map}
use Rattle.std.specs.Str.{bytes_eq}
use Rattle.host_base.specs.declared.launch.Pair.{Pair}

abbrev pub is_called : List ℕ → Pair → Bool
is_called name named = bytes_eq named.name name

abbrev pub value_in : Pair → List ℕ
value_in named = named.value

-- the value of the first pair of a name
abbrev pub named_value : List ℕ → List Pair → Option (List ℕ)
named_value name pairs = option_map value_in (find (is_called name) pairs)
