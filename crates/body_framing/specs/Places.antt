-- Which byte may stand where in a chunked body (RFC 9112 7.1), and what may follow it.
use Rattle.std.specs.Prelude.{ℕ, zero, suc, ◌+◌, ◌*◌, Bool, true, false, not, ◌&&◌, ◌||◌, ◌==◌, nat_lt, nat_le, if◌then◌else◌}
use Rattle.std.specs.Char.{digit_value, is_ascii_hexdigit}
use Rattle.host_base.specs.declared.cause.Cause.TheVariants.{BadChunk, BodyTooLong}
use Rattle.body_framing.specs.declared.place.Place.{Place}
use Rattle.body_framing.specs.declared.place.Place.TheVariants.{Size, Extension, SizeEnd, Data, DataEnd, DataLf, Trailer, TrailerEnd, End, Bad}

-- digits of a size, bytes of an extension, and bytes of all trailer lines at most
abbrev pub most_digits : ℕ
most_digits = 16

abbrev pub most_extension : ℕ
most_extension = 256

abbrev pub most_trailers : ℕ
most_trailers = 8192

-- what stands within a line: no CR, LF or NUL
abbrev pub is_text : ℕ → Bool
is_text byte = not (byte == 13 || (byte == 10 || byte == 0))

-- what an extension begins with: ";", SP or TAB
abbrev pub is_extension_start : ℕ → Bool
is_extension_start byte = byte == 59 || (byte == 32 || byte == 9)

-- a digit more, where the size so far is within the room
abbrev pub after_digit : ℕ → ℕ → ℕ → Place
after_digit room digits size = if nat_le size room then Size (digits + 1) size else Bad BodyTooLong

-- what follows the digits: the extension or the end of the line
abbrev pub after_size : ℕ → ℕ → Place
after_size size byte =
    if byte == 13 then SizeEnd size
    else (if is_extension_start byte then Extension size 1 else Bad BadChunk)

-- a byte that is no digit ends the digits, of which there is one at least
abbrev pub after_other : ℕ → ℕ → ℕ → Place
after_other digits size byte = if nat_lt 0 digits then after_size size byte else Bad BadChunk

abbrev pub after_extension : ℕ → ℕ → ℕ → Place
after_extension size count byte =
    if byte == 13 then SizeEnd size
    else (if is_text byte && nat_lt count most_extension then Extension size (count + 1) else Bad BadChunk)

-- the chunk of size 0 is the last one, and has no data
abbrev pub after_line : ℕ → Place
after_line zero = Trailer 0 false
after_line (suc left) = Data left

abbrev pub after_data : ℕ → Place
after_data zero = DataEnd
after_data (suc left) = Data left

abbrev pub after_trailer : ℕ → Bool → ℕ → Place
after_trailer total filled byte =
    if byte == 13 then TrailerEnd total filled
    else (if is_text byte && nat_lt total most_trailers then Trailer (total + 1) true else Bad BadChunk)

-- an empty line ends the body
abbrev pub after_trailer_line : ℕ → Bool → Place
after_trailer_line total filled = if filled then Trailer total false else End

-- the place that follows a byte, where so many bytes of data may still come
abbrev pub place_after : ℕ → Place → ℕ → Place
place_after room (Size digits size) byte =
    if is_ascii_hexdigit byte
    then (if nat_lt digits most_digits then after_digit room digits (size * 16 + digit_value byte) else Bad BadChunk)
    else after_other digits size byte
place_after room (Extension size count) byte = after_extension size count byte
place_after room (SizeEnd size) byte = if byte == 10 then after_line size else Bad BadChunk
place_after room (Data left) byte = after_data left
place_after room DataEnd byte = if byte == 13 then DataLf else Bad BadChunk
place_after room DataLf byte = if byte == 10 then Size 0 0 else Bad BadChunk
place_after room (Trailer total filled) byte = after_trailer total filled byte
place_after room (TrailerEnd total filled) byte = if byte == 10 then after_trailer_line total filled else Bad BadChunk
place_after room End byte = End
place_after room (Bad cause) byte = Bad cause

-- whether a byte there is one of the body's data
abbrev pub is_data : Place → Bool
is_data (Data left) = true
is_data (Size digits size) = false
is_data (Extension size count) = false
is_data (SizeEnd size) = false
is_data DataEnd = false
is_data DataLf = false
is_data (Trailer total filled) = false
is_data (TrailerEnd total filled) = false
is_data End = false
is_data (Bad cause) = false

-- whether nothing is read any more
abbrev pub is_done : Place → Bool
is_done End = true
is_done (Bad cause) = true
is_done (Size digits size) = false
is_done (Extension size count) = false
is_done (SizeEnd size) = false
is_done (Data left) = false
is_done DataEnd = false
is_done DataLf = false
is_done (Trailer total filled) = false
is_done (TrailerEnd total filled) = false
