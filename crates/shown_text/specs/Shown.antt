-- A text as a line shows it.
use Rattle.std.specs.Prelude.{ℕ, ◌/◌, ◌%◌, Bool, true, ◌||◌, ◌&&◌, ◌==◌, nat_lt, nat_le, if◌then◌else◌, List, [], ◌∷◌, ◌++◌, codes}
use Rattle.std.specs.Char.{encode_utf8}
use Rattle.std.specs.List.{flat_map}
use Rattle.std.specs.Fmt.{digit_glyph}
use Rattle.std.specs.Str.{chars}

abbrev pub is_between : ℕ → ℕ → ℕ → Bool
is_between first last c = nat_le first c && nat_le c last

-- a control (C0, DEL and C1 of ECMA-48), which would end the line, move it or begin a terminal's order
abbrev pub is_control : ℕ → Bool
is_control c = nat_lt c 0x20 || is_between 0x7F 0x9F c

-- an embedding, an override or an isolate (UAX #9, 2), which would show what stands behind it in another order
abbrev pub is_direction : ℕ → Bool
is_direction c = is_between 0x202A 0x202E c || is_between 0x2066 0x2069 c

-- .. or the `\` that stands before what is hidden
abbrev pub is_hidden : ℕ → Bool
is_hidden c = is_control c || is_direction c || c == 0x5C

-- `\x` and two upper-case hex digits
abbrev pub escaped : ℕ → List ℕ
escaped b = codes "\\x" ++ digit_glyph true (b / 16) ∷ digit_glyph true (b % 16) ∷ []

-- a character as it is, or each byte of it escaped
abbrev pub shown_char : ℕ → List ℕ
shown_char c = if is_hidden c then flat_map escaped (encode_utf8 c) else encode_utf8 c

-- each character as it is, but for those that a line can't show
abbrev pub shown : List ℕ → List ℕ
shown text = flat_map shown_char (chars text)
