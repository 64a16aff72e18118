-- A body in chunks (RFC 9112 7.1): the grammar, and what is read from bytes of which more may come.
use Rattle.std.specs.Prelude.{ℕ, suc, ◌≡◌, ◌+◌, ◌-◌, ◌*◌, ◌<◌, ◌≤◌, true, List, [], ◌∷◌, ◌++◌, length, All, sum_by, fold, if◌then◌else◌}
use Rattle.std.specs.List.{flat_map}
use Rattle.std.specs.Char.{digit_value, is_ascii_hexdigit}
use Rattle.host_base.specs.declared.cause.Cause.{Cause}
use Rattle.body_framing.specs.declared.place.Place.{Place}
use Rattle.body_framing.specs.declared.place.Place.TheVariants.{Size, Extension, SizeEnd, Data, DataEnd, DataLf, Trailer, TrailerEnd, End, Bad}
use Rattle.body_framing.specs.declared.step.ChunkStep.{ChunkStep}
use Rattle.body_framing.specs.declared.step.ChunkStep.TheVariants as Answer
use Rattle.body_framing.specs.Places.{is_text, is_extension_start, most_digits, most_extension, most_trailers, place_after, is_data, is_done}

-- ---- the grammar

abbrev pub crlf : List ℕ
crlf = 13 ∷ 10 ∷ []

abbrev pub with_crlf : List ℕ → List ℕ
with_crlf line = line ++ crlf

abbrev pub IsHex : ℕ → Type 0
IsHex byte = is_ascii_hexdigit byte ≡ true

abbrev pub IsText : ℕ → Type 0
IsText byte = is_text byte ≡ true

-- one more hex digit of a number
abbrev pub with_digit : ℕ → ℕ → ℕ
with_digit size byte = size * 16 + digit_value byte

-- nothing, or a ";", SP or TAB with what follows it in the line
abbrev pub IsExtension : List ℕ → Type 0
IsExtension [] = Unit {0}
IsExtension (byte ∷ bytes) = (is_extension_start byte ≡ true) × (All IsText bytes) × (length bytes < most_extension)

-- chunk-size [ chunk-ext ] CRLF, with the size that it names
pub record IsSizeLine (line : List ℕ) (size : ℕ) : Type 0 where
  pub digits : List ℕ
  pub extension : List ℕ
  pub some : 0 < length digits
  pub few : length digits ≤ most_digits
  pub hex : All IsHex digits
  pub extends : IsExtension extension
  pub line_is : line ≡ digits ++ (extension ++ crlf)
  pub size_is : size ≡ fold with_digit 0 digits

-- a size line and the data behind it
pub record Chunk : Type 0 where
  pub line : List ℕ
  pub data_bytes : List ℕ

abbrev pub data_of : Chunk → List ℕ
data_of chunk = chunk.data_bytes

-- chunk = chunk-size [ chunk-ext ] CRLF chunk-data CRLF
abbrev pub chunk_bytes : Chunk → List ℕ
chunk_bytes chunk = chunk.line ++ with_crlf chunk.data_bytes

pub record IsChunk (chunk : Chunk) : Type 0 where
  pub some : 0 < length chunk.data_bytes
  pub sized : IsSizeLine chunk.line (length chunk.data_bytes)

-- a line of the trailer section, without its end
pub record IsTrailer (line : List ℕ) : Type 0 where
  pub some : 0 < length line
  pub text : All IsText line

-- chunked-body = *chunk last-chunk trailer-section CRLF, with its data joined
pub record IsChunkedBody (limit : ℕ) (bytes decoded : List ℕ) : Type 0 where
  pub chunks : List Chunk
  pub last : List ℕ
  pub trailers : List (List ℕ)
  pub each : All IsChunk chunks
  pub ends : IsSizeLine last 0
  pub lines : All IsTrailer trailers
  pub short : sum_by length trailers ≤ most_trailers
  pub bytes_are : bytes ≡ flat_map chunk_bytes chunks ++ (last ++ (flat_map with_crlf trailers ++ crlf))
  pub decoded_is : decoded ≡ flat_map data_of chunks
  pub within : length decoded ≤ limit

-- ---- what is read

-- where the reading of a body stands: the bytes of data that it may have, the place of the next byte, and
-- the data so far
pub record Standing : Type 0 where
  pub limit : ℕ
  pub place : Place
  pub decoded : List ℕ

abbrev pub standing_at : Standing → ℕ → Place
standing_at s byte = place_after (s.limit - length s.decoded) s.place byte

-- a byte more
unfoldable pub after : Standing → ℕ → Standing
after s byte = record {
  limit = s.limit;
  place = standing_at s byte;
  decoded = if is_data s.place then s.decoded ++ byte ∷ [] else s.decoded;
}

abbrev pub after_all : Standing → List ℕ → Standing
after_all s bytes = fold after s bytes

abbrev pub at_start : ℕ → Standing
at_start limit = record { limit = limit; place = Size 0 0; decoded = [] }

-- where the reading stands behind these bytes of a body
abbrev pub standing_after : ℕ → List ℕ → Standing
standing_after limit bytes = after_all (at_start limit) bytes

-- how many of the bytes are read up to the end of the body or a byte that is refused
abbrev pub read_len : Standing → List ℕ → ℕ
read_len s [] = 0
read_len s (byte ∷ bytes) = if is_done s.place then 0 else suc (read_len (after s byte) bytes)

-- what bytes are as a body
pub data BodyReading : Type 0 where
  -- a body, and how many bytes it took
  ended : List ℕ → ℕ → BodyReading
  -- the front of one, and the data so far
  unended : List ℕ → BodyReading
  -- none, whatever follows
  refused : Cause → BodyReading

abbrev pub reading_at : Place → List ℕ → ℕ → BodyReading
reading_at End decoded used = ended decoded used
reading_at (Bad cause) decoded used = refused cause
reading_at (Size digits size) decoded used = unended decoded
reading_at (Extension size count) decoded used = unended decoded
reading_at (SizeEnd size) decoded used = unended decoded
reading_at (Data left) decoded used = unended decoded
reading_at DataEnd decoded used = unended decoded
reading_at DataLf decoded used = unended decoded
reading_at (Trailer total filled) decoded used = unended decoded
reading_at (TrailerEnd total filled) decoded used = unended decoded

-- What bytes are as a chunked body.
unfoldable pub read_chunked : ℕ → List ℕ → BodyReading
read_chunked limit bytes =
    let s = standing_after limit bytes in
    reading_at s.place s.decoded (read_len (at_start limit) bytes)

-- what a reader answers, by the reading of all bytes that it was fed, of which so many were fed before
abbrev pub chunk_step : ℕ → BodyReading → ChunkStep
chunk_step before (ended decoded used) = Answer.End (used - before)
chunk_step before (unended decoded) = Answer.More
chunk_step before (refused cause) = Answer.Bad cause

abbrev pub step_at : Place → ℕ → ChunkStep
step_at place used = chunk_step 0 (reading_at place [] used)
