-- What a list of field lines has under a name.
use Rattle.std.specs.Prelude.{ℕ, Bool, List, filter, map}
use Rattle.std.specs.List.{flat_map}
use Rattle.std.specs.Str.{str_eq_ignore_ascii_case}
use Rattle.host_base.specs.declared.fields.Field.{Field}
use Rattle.host_base.specs.Ascii.{comma_words}

-- names of fields are compared without regard to ASCII case (RFC 9110 5.1)
abbrev pub is_named : List ℕ → Field → Bool
is_named name f = str_eq_ignore_ascii_case name f.name

abbrev pub value_of : Field → List ℕ
value_of f = f.value

-- the values under a name, in order
abbrev pub values_named : List ℕ → List Field → List (List ℕ)
values_named name fields = map value_of (filter (is_named name) fields)

-- the list of a field: the words of all its values in order (RFC 9110 5.3 and 5.6.1)
abbrev pub field_words : List ℕ → List Field → List (List ℕ)
field_words name fields = flat_map comma_words (values_named name fields)
