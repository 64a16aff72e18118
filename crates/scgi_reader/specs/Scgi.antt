-- What a whole string is as an SCGI request: a head of variables as a netstring, then the body.
use Rattle.std.specs.Prelude.{ℕ, ◌+◌, Bool, not, ◌||◌, ◌==◌, nat_lt, nat_le, List, [], ◌∷◌, length, take, drop, slice_get, Option, Some, None, Result, Ok, Err, if◌then◌else◌}
use Rattle.std.specs.Char.{is_ascii_digit}
use Rattle.host_base.specs.declared.cause.Cause.{Cause}
use Rattle.host_base.specs.declared.cause.Cause.TheVariants.{BadScgi, HeadTooLong, BodyTooLong}
use Rattle.host_base.specs.declared.fields.Field.{Field}
use Rattle.host_base.specs.declared.limits.Limits.{Limits}
use Rattle.scgi_reader.specs.declared.head.Head.{Head}
use Rattle.scgi_reader.specs.declared.head.Head.TheVariants as Heard
use Rattle.scgi_reader.specs.declared.reader.ScgiStep.{ScgiStep}
use Rattle.scgi_reader.specs.declared.reader.ScgiStep.TheVariants.{Whole, More, Bad}
use Rattle.scgi_reader.specs.Numbers.{digits_of, number_of}
use Rattle.scgi_reader.specs.Pairs.{pairs_in, body_length}

-- ---- the length of the head: Ok None where it has not ended

abbrev pub is_colon : ℕ → Bool
is_colon byte = byte == 58

abbrev pub within : ℕ → ℕ → Result (Option ℕ) Cause
within head n = if nat_le n head then Ok (Some n) else Err HeadTooLong

-- by what stands behind the digits
abbrev pub length_at : ℕ → List ℕ → List ℕ → Result (Option ℕ) Cause
length_at head digits [] = Ok None
length_at head digits (byte ∷ rest) = if is_colon byte then within head (number_of digits) else Err BadScgi

abbrev pub length_by : ℕ → List ℕ → List ℕ → Result (Option ℕ) Cause
length_by head digits rest = if nat_lt 5 (length digits) then Err HeadTooLong else length_at head digits rest

-- a first byte that begins no number
abbrev pub begins_no_number : ℕ → Bool
begins_no_number byte = not (is_ascii_digit byte) || byte == 48

-- a decimal number without a zero at its front, of five digits at most
abbrev pub head_length : ℕ → List ℕ → Result (Option ℕ) Cause
head_length head [] = Ok None
head_length head (byte ∷ s) =
    if begins_no_number byte then Err BadScgi
    else length_by head (digits_of (byte ∷ s)) (drop (length (digits_of (byte ∷ s))) (byte ∷ s))

-- where the head's bytes begin: behind the digits and the colon
abbrev pub head_start : List ℕ → ℕ
head_start s = length (digits_of s) + 1

-- ---- the head: its variables, how many bytes it has with its comma, and how many bytes of body it announces

abbrev pub by_length : Limits → List Field → ℕ → Option ℕ → Head
by_length limits fields used None = Heard.Bad BadScgi
by_length limits fields used (Some n) = if nat_lt limits.body n then Heard.Bad BodyTooLong else Heard.Whole (record { fields = fields; used = used; len = n })

abbrev pub by_fields : Limits → ℕ → Option (List Field) → Head
by_fields limits used None = Heard.Bad BadScgi
by_fields limits used (Some fields) = by_length limits fields used (body_length fields)

-- .. by the byte behind its n bytes, where it was heard
abbrev pub by_byte : Limits → ℕ → ℕ → List ℕ → Option ℕ → Head
by_byte limits start n rest None = Heard.More
by_byte limits start n rest (Some byte) =
    if byte == 44 then by_fields limits (start + n + 1) (pairs_in (take n rest)) else Heard.Bad BadScgi

-- .. by the bytes behind the colon, of which n and a comma are the head
abbrev pub by_head : Limits → ℕ → ℕ → List ℕ → Head
by_head limits start n rest = by_byte limits start n rest (slice_get rest n)

abbrev pub by_size : Limits → List ℕ → Result (Option ℕ) Cause → Head
by_size limits s (Err cause) = Heard.Bad cause
by_size limits s (Ok None) = Heard.More
by_size limits s (Ok (Some n)) = by_head limits (head_start s) n (drop (head_start s) s)

abbrev pub head_of : Limits → List ℕ → Head
head_of limits s = by_size limits s (head_length limits.head s)

-- ---- the request

-- the body, of which so many bytes are announced; `used` bytes stand before it
abbrev pub with_body : List Field → ℕ → ℕ → List ℕ → ScgiStep
with_body fields used n rest =
    if nat_le n (length rest) then Whole (record { fields = fields; body = take n rest }) (used + n) else More

abbrev pub behind : List ℕ → Head → ScgiStep
behind s Heard.More = More
behind s (Heard.Bad cause) = Bad cause
behind s (Heard.Whole head) = with_body head.fields head.used head.len (drop head.used s)

-- Whole, with how many bytes it has; More, where it has not ended; or Bad, with the first cause as the bytes are read.
abbrev pub scgi_of : Limits → List ℕ → ScgiStep
scgi_of limits s = behind s (head_of limits s)
