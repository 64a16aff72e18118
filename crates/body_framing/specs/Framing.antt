-- How the body of a request is delimited (RFC 9112 6.3).
use Rattle.std.specs.Prelude.{ℕ, ◌+◌, ◌-◌, ◌*◌, Bool, true, false, not, ◌&&◌, ◌||◌, ◌==◌, nat_le, List, [], ◌∷◌, length, fold, Option, Some, None, Result, Ok, Err, if◌then◌else◌, codes, bytes_eq}
use Rattle.std.specs.List.{list_any, list_all}
use Rattle.std.specs.Char.{is_ascii_digit}
use Rattle.std.specs.Str.{str_eq_ignore_ascii_case}
use Rattle.httparse.specs.Grammar.{trim_ows}
use Rattle.host_base.specs.Ascii.{is_filled}
use Rattle.host_base.specs.FieldLists.{is_named, values_named, field_words}
use Rattle.host_base.specs.declared.cause.Cause.{Cause}
use Rattle.host_base.specs.declared.cause.Cause.TheVariants.{BadFraming, BodyTooLong, CodingUnknown}
use Rattle.host_base.specs.declared.fields.Field.{Field}
use Rattle.host_base.specs.declared.limits.Limits.{Limits}
use Rattle.host_base.specs.declared.request.Framing.{Framing}
use Rattle.host_base.specs.declared.request.Framing.TheVariants.{Empty, Length, Chunked}
use Rattle.host_base.specs.declared.request.Head.{Head}
use Rattle.host_base.specs.declared.request.Version.{Version}
use Rattle.host_base.specs.declared.request.Version.TheVariants.{V10, V11}

abbrev pub has_field : List ℕ → List Field → Bool
has_field name fields = list_any (is_named name) fields

-- another word, without regard to ASCII case
abbrev pub is_other_word : List ℕ → List ℕ → Bool
is_other_word word other = not (str_eq_ignore_ascii_case word other)

-- whether a part between commas is a word and another one
abbrev pub is_other_part : List ℕ → List ℕ → Bool
is_other_part word part = is_filled (trim_ows part) && is_other_word word (trim_ows part)

-- names of transfer codings have no case (RFC 9112 7)
abbrev pub is_other_coding : List ℕ → Bool
is_other_coding word = is_other_word (codes "chunked") word

-- the one coding of a list
abbrev pub chunked_alone : ℕ → Result Framing Cause
chunked_alone count = if count == 1 then Ok Chunked else Err BadFraming

-- by the transfer codings: only chunked is served, and it is applied once (RFC 9112 6.1 and 7.1)
abbrev pub framing_by_codings : List (List ℕ) → Result Framing Cause
framing_by_codings words = if list_any is_other_coding words then Err CodingUnknown else chunked_alone (length words)

-- a number without the zeros before it
abbrev pub without_zeros : List ℕ → List ℕ
without_zeros [] = []
without_zeros (byte ∷ bytes) = if byte == 48 then without_zeros bytes else byte ∷ bytes

-- Content-Length = 1*DIGIT (RFC 9110 8.6): the digits, without blanks around them and without the zeros before them
abbrev pub length_digits : List ℕ → Option (List ℕ)
length_digits value =
    let word = trim_ows value in
    if is_filled word && list_all is_ascii_digit word then Some (without_zeros word) else None

-- whether a value names the length of these digits
abbrev pub names_length : List ℕ → Option (List ℕ) → Bool
names_length digits None = false
names_length digits (Some other) = bytes_eq digits other

abbrev pub is_length : List ℕ → List ℕ → Bool
is_length digits value = names_length digits (length_digits value)

abbrev pub with_decimal : ℕ → ℕ → ℕ
with_decimal number byte = number * 10 + (byte - 48)

-- the number that decimal digits write
abbrev pub number_of : List ℕ → ℕ
number_of digits = fold with_decimal 0 digits

abbrev pub framing_by_number : ℕ → ℕ → Result Framing Cause
framing_by_number limit number = if nat_le number limit then Ok (Length number) else Err BodyTooLong

-- by the first length, which all others are to name
abbrev pub framing_by_digits : ℕ → Option (List ℕ) → List (List ℕ) → Result Framing Cause
framing_by_digits limit None others = Err BadFraming
framing_by_digits limit (Some digits) others =
    if list_all (is_length digits) others then framing_by_number limit (number_of digits) else Err BadFraming

-- by the values of Content-Length
abbrev pub framing_by_lengths : ℕ → List (List ℕ) → Result Framing Cause
framing_by_lengths limit [] = Ok Empty
framing_by_lengths limit (value ∷ others) = framing_by_digits limit (length_digits value) others

abbrev pub is_v10 : Version → Bool
is_v10 V10 = true
is_v10 V11 = false

-- transfer codings are of HTTP/1.1, and stand beside no Content-Length (RFC 9112 6.1)
abbrev pub is_codings_refused : Head → Bool
is_codings_refused head = is_v10 head.version || has_field (codes "Content-Length") head.fields

unfoldable pub framing_of : Head → Limits → Result Framing Cause
framing_of head limits =
    if has_field (codes "Transfer-Encoding") head.fields
    then (if is_codings_refused head then Err BadFraming else framing_by_codings (field_words (codes "Transfer-Encoding") head.fields))
    else framing_by_lengths limits.body (values_named (codes "Content-Length") head.fields)
