-- The header that the output of a CGI script begins with (RFC 3875 6), as a function on all bytes of the output so
-- far.
use Rattle.std.specs.Prelude.{ℕ, Bool, true, ◌&&◌, ◌||◌, ◌==◌, nat_lt, nat_le, List, [], ◌∷◌, ◌++◌, length, take, drop, filter, slice_get, Option, Some, None, is_none, option_and_then, codes, if◌then◌else◌}
use Rattle.std.specs.Option.{option_or}
use Rattle.std.specs.Char.{is_ascii_digit}
use Rattle.std.specs.List.{list_all, list_any, filter_map}
use Rattle.std.specs.Str.Parse.{digits_value}
use Rattle.httparse.specs.Grammar.{is_ows, trim_ows}
use Rattle.host_base.specs.declared.cause.Cause.{Cause}
use Rattle.host_base.specs.declared.cause.Cause.TheVariants.{NoOutput, HeaderIncomplete, HeaderTooLarge, HeaderLine, HeaderRepeated, BadStatus}
use Rattle.host_base.specs.declared.fields.Field.{Field}
use Rattle.host_base.specs.FieldLists.{is_named, values_named}
use Rattle.head_lines.specs.Lines.{Front, front_of}
use Rattle.head_reader.specs.RequestHead.{field_of}
use Rattle.cgi_header.specs.declared.header.Given.{Given}
use Rattle.cgi_header.specs.declared.header.CgiHead.{CgiHead}
use Rattle.cgi_header.specs.declared.header.HdrStep.{HdrStep}
use Rattle.cgi_header.specs.declared.header.HdrStep.TheVariants.{Whole, More, Bad}

-- a header has at most so many bytes, with its empty line
abbrev pub most_header : ℕ
most_header = 8192

-- ---- Status (RFC 3875 6.3.3)

abbrev pub are_three_digits : List ℕ → Bool
are_three_digits digits = length digits == 3 && list_all is_ascii_digit digits

-- a status that ends a request (RFC 9110 15.3 to 15.6)
abbrev pub is_final : ℕ → Bool
is_final code = nat_le 200 code && nat_le code 599

-- what follows the code begins with a blank, or there is nothing
abbrev pub is_set_off : List ℕ → Bool
is_set_off [] = true
is_set_off (byte ∷ phrase) = is_ows byte

-- status-code [ SP reason-phrase ], where any blanks may stand round the phrase, which may be empty
unfoldable pub status_of : List ℕ → Option Given
status_of value =
    if are_three_digits (take 3 value) && is_final (digits_value 10 (take 3 value)) && is_set_off (drop 3 value)
    then Some (record { code = digits_value 10 (take 3 value); phrase = trim_ows (drop 3 value) })
    else None

-- ---- the fields of the lines

-- "A NULL field value is equivalent to a field not being sent" (RFC 3875 6.3)
abbrev pub has_value : Field → Bool
has_value f = nat_lt 0 (length f.value)

-- the fields that lines are, in their order; one without a value counts as not sent (RFC 3875 6.3)
abbrev pub fields_of_lines : List (List ℕ) → List Field
fields_of_lines lines = filter has_value (filter_map field_of lines)

-- the field that a line is, where it counts as sent
abbrev pub sent_fields : Option Field → List Field
sent_fields None = []
sent_fields (Some f) = if has_value f then f ∷ [] else []

abbrev pub is_status : Field → Bool
is_status f = is_named (codes "Status") f

-- Content-Type / Location / Status: none of them stands twice in a header (RFC 3875 6.3)
abbrev pub is_cgi_field : Field → Bool
is_cgi_field f = is_named (codes "Content-Type") f || is_named (codes "Location") f || is_status f

abbrev pub is_repeated : List Field → Field → Bool
is_repeated before f = is_cgi_field f && list_any (is_named f.name) before

-- ---- the first line that is refused

-- why a field is refused that stands after these fields
abbrev pub fault_of_field : List Field → Field → Option Cause
fault_of_field before f =
    if is_repeated before f then Some HeaderRepeated
    else (if is_status f && is_none (status_of f.value) then Some BadStatus else None)

-- why a line is refused, by the field that it is
abbrev pub fault_of : List Field → Option Field → Option Cause
fault_of before None = Some HeaderLine
fault_of before (Some f) = if has_value f then fault_of_field before f else None

-- why a line is refused that stands after these lines
abbrev pub fault_of_line : List (List ℕ) → List ℕ → Option Cause
fault_of_line before line = fault_of (fields_of_lines before) (field_of line)

-- the cause of the first line that is refused, of lines that stand after others
abbrev pub first_fault : List (List ℕ) → List (List ℕ) → Option Cause
first_fault before [] = None
first_fault before (line ∷ lines) = option_or (fault_of_line before line) (first_fault (before ++ line ∷ []) lines)

-- ---- the header

-- the value of a field that stands once at most
abbrev pub value_named : List ℕ → List Field → Option (List ℕ)
value_named name fields = slice_get (values_named name fields) 0

-- what the fields say
abbrev pub head_of : List Field → CgiHead
head_of fields = record {
  fields = fields;
  status = option_and_then status_of (value_named (codes "Status") fields);
  location = value_named (codes "Location") fields;
  has_type = list_any (is_named (codes "Content-Type")) fields;
}

abbrev pub step_by_fault : ℕ → List (List ℕ) → Option Cause → HdrStep
step_by_fault used lines None = Whole (head_of (fields_of_lines lines)) used
step_by_fault used lines (Some cause) = Bad cause

-- by the header within the first bytes of an output of so many bytes
abbrev pub step_by_front : ℕ → Option Front → HdrStep
step_by_front seen None = if nat_le most_header seen then Bad HeaderTooLarge else More
step_by_front seen (Some front) = step_by_fault front.len front.lines (first_fault [] front.lines)

-- What an output begins with, as far as it has come: its front up to and including the first empty line. Nothing
-- is refused before that line or the limit.
unfoldable pub read_header : List ℕ → HdrStep
read_header output = step_by_front (length output) (front_of (take most_header output))

-- Why an output is refused that ends where more bytes of its header are waited for. One that is too large is refused
-- before.
abbrev pub missing_cause : List ℕ → Cause
missing_cause [] = NoOutput
missing_cause (byte ∷ bytes) = HeaderIncomplete
