-- The host and the port of an authority (RFC 3986 3.2), as a Host field and an absolute target have it.
use Rattle.std.specs.Prelude.{ℕ, ◌+◌, ◌-◌, Bool, true, ◌&&◌, ◌||◌, List, [], ◌∷◌, length, take, drop, slice_index, slice_range, Option, Some, None, if◌then◌else◌, ◌==◌, nat_lt, codes}
use Rattle.std.specs.Char.{is_ascii_digit, is_ascii_hexdigit, is_ascii_alphanumeric}
use Rattle.std.specs.List.{list_any, list_all, position_or_len}
use Rattle.script_map.specs.Bytes.{begins_with}
use Rattle.script_map.specs.Escapes.{is_percent, has_whole_escapes}

-- what stands before a port
abbrev pub is_port_mark : ℕ → Bool
is_port_mark byte = byte == 58

abbrev pub is_bracket_end : ℕ → Bool
is_bracket_end byte = byte == 93

-- a byte between the brackets of an IP literal (RFC 3986 3.2.2)
abbrev pub is_address_byte : ℕ → Bool
is_address_byte byte = is_ascii_hexdigit byte || byte == 58 || byte == 46

-- "[" 1*( HEXDIG / ":" / "." ) "]"
abbrev pub is_ip_literal : List ℕ → Bool
is_ip_literal bytes =
    nat_lt 2 (length bytes) && begins_with 91 bytes && is_bracket_end (slice_index bytes (length bytes - 1))
    && list_all is_address_byte (slice_range bytes 1 (length bytes - 1))

-- "-" / "." / "_" / "~" of unreserved (RFC 3986 2.3), and sub-delims (RFC 3986 2.2)
abbrev pub is_name_mark : ℕ → Bool
is_name_mark byte = list_any (λ mark. mark == byte) (codes "-._~!$&'()*+,;=")

abbrev pub is_name_byte : ℕ → Bool
is_name_byte byte = is_ascii_alphanumeric byte || is_name_mark byte || is_percent byte

-- reg-name = *( unreserved / pct-encoded / sub-delims ) (RFC 3986 3.2.2)
abbrev pub is_registered_name : List ℕ → Bool
is_registered_name bytes = list_all is_name_byte bytes && has_whole_escapes bytes

abbrev pub is_host : List ℕ → Bool
is_host bytes = is_ip_literal bytes || is_registered_name bytes

-- nothing, or ":" port, where port = *DIGIT (RFC 3986 3.2.3)
abbrev pub is_port_part : List ℕ → Bool
is_port_part [] = true
is_port_part (byte ∷ digits) = is_port_mark byte && list_all is_ascii_digit digits

-- how long the host is: up to the first "]" where it begins with "[", else up to the first ":"
abbrev pub host_len : List ℕ → ℕ
host_len value =
    if begins_with 91 value then position_or_len is_bracket_end value + 1 else position_or_len is_port_mark value

-- The host of an authority, host [ ":" port ], or None where the value is none. The host may be empty.
unfoldable pub host_of_authority : List ℕ → Option (List ℕ)
host_of_authority value =
    let host = take (host_len value) value in
    if is_host host && is_port_part (drop (host_len value) value) then Some host else None
