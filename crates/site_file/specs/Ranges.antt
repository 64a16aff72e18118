-- Which texts and numbers may stand at the keys of a site file.
use Rattle.std.specs.Prelude.{ℕ, Bool, false, ◌==◌, ◌&&◌, ◌||◌, not, nat_le, List, [], ◌∷◌, drop, length, count_by, codes, bytes_eq, if◌then◌else◌}
use Rattle.std.specs.Char.{is_ascii_digit}
use Rattle.std.specs.List.{list_all, list_any, slice_split, starts_with, ends_with}
use Rattle.host_base.specs.declared.site.ScriptKind.{ScriptKind}
use Rattle.host_base.specs.declared.site.ScriptKind.TheVariants.{Cgi, Nph, WebSocket}
use Rattle.script_map.specs.Authority.{is_host}
use Rattle.script_map.specs.DotSegments.{is_slash, is_dot_segment}

-- a host (RFC 3986 3.2.2) that isn't empty
abbrev pub is_host_name : List ℕ → Bool
is_host_name text = is_host text && nat_le 1 (length text)

abbrev pub is_period : ℕ → Bool
is_period byte = byte == 46

-- DIGIT / %x31-39 DIGIT / "1" 2DIGIT / "2" %x30-34 DIGIT / "25" %x30-35 (dec-octet of RFC 3986 3.2.2)
abbrev pub is_octet : List ℕ → Bool
is_octet (a ∷ []) = is_ascii_digit a
is_octet (a ∷ b ∷ []) = (nat_le 49 a && nat_le a 57) && is_ascii_digit b
is_octet (a ∷ b ∷ c ∷ []) =
    (a == 49 && is_ascii_digit b && is_ascii_digit c)
    || (a == 50 && (nat_le 48 b && nat_le b 52) && is_ascii_digit c)
    || (a == 50 && b == 53 && (nat_le 48 c && nat_le c 53))
is_octet _ = false

-- dec-octet "." dec-octet "." dec-octet "." dec-octet (IPv4address of RFC 3986 3.2.2)
abbrev pub is_address : List ℕ → Bool
is_address text = count_by is_period text == 3 && list_all is_octet (slice_split is_period text)

abbrev pub has_nul : List ℕ → Bool
has_nul text = list_any (λ byte. byte == 0) text

-- begins with "/", doesn't end with "/", and has no NUL
abbrev pub is_program : List ℕ → Bool
is_program text = starts_with (λ a b. a == b) text (codes "/") && not (ends_with (λ a b. a == b) text (codes "/")) && not (has_nul text)

-- .. with at least 2 bytes
abbrev pub is_folder : List ℕ → Bool
is_folder text = nat_le 2 (length text) && is_program text

-- a segment (RFC 3986 3.3) that isn't empty and no dot segment
abbrev pub is_segment : List ℕ → Bool
is_segment segment = nat_le 1 (length segment) && not (is_dot_segment segment)

-- begins with "/", and has only such segments after it, so at least 2 bytes, and no NUL
abbrev pub is_script_path : List ℕ → Bool
is_script_path text = starts_with (λ a b. a == b) text (codes "/") && list_all is_segment (slice_split is_slash (drop 1 text)) && not (has_nul text)

abbrev pub is_kind : List ℕ → Bool
is_kind word = bytes_eq word (codes "cgi") || bytes_eq word (codes "nph") || bytes_eq word (codes "websocket")

-- the kind that a word names
abbrev pub kind_named : List ℕ → ScriptKind
kind_named word = if bytes_eq word (codes "websocket") then WebSocket else (if bytes_eq word (codes "nph") then Nph else Cgi)

-- the word that names a kind
abbrev pub word_of : ScriptKind → List ℕ
word_of Cgi = codes "cgi"
word_of Nph = codes "nph"
word_of WebSocket = codes "websocket"

abbrev pub are_1_to_100 : List ℕ → Bool
are_1_to_100 text = nat_le 1 (length text) && nat_le (length text) 100

-- a lower-case letter or a digit
abbrev pub is_extension_byte : ℕ → Bool
is_extension_byte byte = (nat_le 97 byte && nat_le byte 122) || is_ascii_digit byte

-- 1 to 100 lower-case letters and digits
abbrev pub is_extension : List ℕ → Bool
is_extension text = are_1_to_100 text && list_all is_extension_byte text

-- a byte that is shown (VCHAR of RFC 5234 B.1)
abbrev pub is_shown_byte : ℕ → Bool
is_shown_byte byte = nat_le 0x21 byte && nat_le byte 0x7E

-- 1 to 100 bytes from 0x21 to 0x7E
abbrev pub is_media_type : List ℕ → Bool
is_media_type text = are_1_to_100 text && list_all is_shown_byte text

abbrev pub are_at_most_64 : List (List ℕ) → Bool
are_at_most_64 texts = nat_le (length texts) 64

-- at most 64 host names
abbrev pub are_aliases : List (List ℕ) → Bool
are_aliases texts = nat_le (length texts) 64 && list_all is_host_name texts
