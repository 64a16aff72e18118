-- The variables that carry the fields of a request (RFC 3875 4.1.18).
use Rattle.std.specs.Prelude.{ℕ, Bool, ◌&&◌, ◌||◌, ◌==◌, not, List, [], ◌∷◌, ◌++◌, map, filter, if◌then◌else◌, codes}
use Rattle.std.specs.Char.{is_ascii_alphanumeric, to_ascii_uppercase}
use Rattle.std.specs.List.{list_any, list_all}
use Rattle.std.specs.Str.{str_eq_ignore_ascii_case}
use Rattle.host_base.specs.declared.fields.Field.{Field}
use Rattle.host_base.specs.declared.launch.Pair.{Pair}
use Rattle.host_base.specs.FieldLists.{values_named}
use Rattle.meta_variables.specs.Variables.{pair, is_kept, joined_values}

-- a letter, a digit or "-"
abbrev pub is_name_char : ℕ → Bool
is_name_char byte = is_ascii_alphanumeric byte || byte == 45

-- the character of a variable's name for one of a field's name
abbrev pub variable_char : ℕ → ℕ
variable_char byte = if byte == 45 then 95 else to_ascii_uppercase byte

-- HTTP_ and the name in upper case, with "_" for "-"
abbrev pub variable_name : List ℕ → List ℕ
variable_name name = codes "HTTP_" ++ map variable_char name

-- The fields that are no variables: those that name the client to the host alone or may not be trusted (RFC 3875 4.1.18
-- and 9.2), those that have a variable of their own, and those of one connection (RFC 9110 7.6.1).
abbrev pub withheld_names : List (List ℕ)
withheld_names =
    codes "Authorization" ∷ codes "Proxy-Authorization" ∷ codes "Proxy" ∷ codes "Content-Length" ∷ codes "Content-Type"
    ∷ codes "Transfer-Encoding" ∷ codes "Connection" ∷ codes "Expect" ∷ codes "Upgrade" ∷ []

-- a field's name is passed on where it is not withheld and is of letters, digits and "-"
abbrev pub is_passed : List ℕ → Bool
is_passed name = not (list_any (str_eq_ignore_ascii_case name) withheld_names) && list_all is_name_char name

abbrev pub name_of : Field → List ℕ
name_of field = field.name

-- each name once, where it stands first, without regard to ASCII case
abbrev pub distinct_names : List (List ℕ) → List (List ℕ)
distinct_names [] = []
distinct_names (name ∷ rest) = name ∷ filter (λ other. not (str_eq_ignore_ascii_case name other)) (distinct_names rest)

-- values are joined by a comma (RFC 9110 5.3), those of Cookie by a semicolon (RFC 6265 4.2.1)
abbrev pub separator_of : List ℕ → List ℕ
separator_of name = if str_eq_ignore_ascii_case (codes "Cookie") name then codes "; " else codes ", "

-- the variable of a field's name: all values that it has
abbrev pub header_variable : List Field → List ℕ → Pair
header_variable fields name = pair (variable_name name) (joined_values (separator_of name) (values_named name fields))

-- The variables of the fields of a request, by the first appearance of their names.
abbrev pub header_variables : List Field → List Pair
header_variables fields = filter is_kept (map (header_variable fields) (distinct_names (filter is_passed (map name_of fields))))
