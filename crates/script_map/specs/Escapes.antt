-- Percent-encoded bytes (RFC 3986 2.1).
use Rattle.std.specs.Prelude.{ℕ, Bool, true, false, not, ◌&&◌, ◌||◌, List, [], ◌∷◌, ◌==◌}
use Rattle.std.specs.Char.{is_ascii_hexdigit}

abbrev pub is_percent : ℕ → Bool
is_percent byte = byte == 37

-- whether the first two bytes pass
abbrev pub begins_with_pair : (ℕ → ℕ → Bool) → List ℕ → Bool
begins_with_pair test (high ∷ low ∷ more) = test high low
begins_with_pair test _ = false

abbrev pub is_hex_pair : ℕ → ℕ → Bool
is_hex_pair high low = is_ascii_hexdigit high && is_ascii_hexdigit low

-- two hex digits follow each "%"
abbrev pub has_whole_escapes : List ℕ → Bool
has_whole_escapes [] = true
has_whole_escapes (byte ∷ rest) = (not (is_percent byte) || begins_with_pair is_hex_pair rest) && has_whole_escapes rest

-- the digits of an escape for "/" or for NUL
abbrev pub is_hidden_pair : ℕ → ℕ → Bool
is_hidden_pair high low = (high == 50 && (low == 70 || low == 102)) || (high == 48 && low == 48)

-- "%2F", in either case, or "%00" stands in the bytes
abbrev pub has_hidden_escape : List ℕ → Bool
has_hidden_escape [] = false
has_hidden_escape (byte ∷ rest) = (is_percent byte && begins_with_pair is_hidden_pair rest) || has_hidden_escape rest
