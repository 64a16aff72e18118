-- A request head (RFC 9112 2.1, 3 and 5), as a function on its lines, and what is read from bytes of
-- which more may come.
use Rattle.std.specs.Prelude.{ℕ, ◌+◌, Bool, true, false, ◌&&◌, List, [], ◌∷◌, length, take, drop, Option, Some, None, option_map, option_and_then, if◌then◌else◌, ◌==◌, nat_lt, nat_le, codes, bytes_eq}
use Rattle.std.specs.Str.{is_utf8}
use Rattle.std.specs.List.{slice_split, list_all, list_any, before_first, after_first}
use Rattle.httparse.specs.Grammar.{is_token, is_uri_byte, is_value_byte, trim_ows}
use Rattle.host_base.specs.declared.fields.Field.{Field}
use Rattle.host_base.specs.declared.request.Version.{Version}
use Rattle.host_base.specs.declared.request.Version.TheVariants.{V10, V11}
use Rattle.host_base.specs.declared.request.Head.{Head}
use Rattle.host_base.specs.declared.limits.Limits.{Limits}
use Rattle.host_base.specs.declared.cause.Cause.TheVariants.{HeadTooLong, TargetTooLong, TooManyFields, BadHead}
use Rattle.head_lines.specs.declared.search.Search.{Search}
use Rattle.head_lines.specs.Lines.{IsSearched, Front, front_of, first_of}
use Rattle.head_reader.specs.declared.step.HeadStep.{HeadStep}
use Rattle.head_reader.specs.declared.step.HeadStep.TheVariants.{Whole, More, Bad}

abbrev pub is_space : ℕ → Bool
is_space byte = byte == 32

abbrev pub is_colon : ℕ → Bool
is_colon byte = byte == 58

-- HTTP-version: HTTP/1.0 or HTTP/1.1 (RFC 9112 2.3)
abbrev pub version_of : List ℕ → Option Version
version_of word =
    if bytes_eq word (codes "HTTP/1.1") then Some V11
    else (if bytes_eq word (codes "HTTP/1.0") then Some V10 else None)

-- request-target: one or more bytes that are no space and no control, UTF-8 as a whole (RFC 9112 3.2)
abbrev pub is_target : List ℕ → Bool
is_target word = nat_lt 0 (length word) && list_all is_uri_byte word && is_utf8 word

pub record RequestLine : Type 0 where
  pub method : List ℕ
  pub target : List ℕ
  pub version : Version

-- request-line = method SP request-target SP HTTP-version (RFC 9112 3), by the words between its spaces
unfoldable pub request_line_of_words : List (List ℕ) → Option RequestLine
request_line_of_words (method ∷ target ∷ version ∷ []) =
    if is_token method && is_target target
    then option_map (λ v. record { method = method; target = target; version = v }) (version_of version)
    else None
request_line_of_words _ = None

abbrev pub request_line_of : List ℕ → Option RequestLine
request_line_of line = request_line_of_words (slice_split is_space line)

-- field-line = field-name ":" OWS field-value OWS (RFC 9112 5)
unfoldable pub field_of : List ℕ → Option Field
field_of line =
    if list_any is_colon line && is_token (before_first is_colon line) && list_all is_value_byte (after_first is_colon line)
    then Some (record { name = before_first is_colon line; value = trim_ows (after_first is_colon line) })
    else None

-- each line is a field line
abbrev pub fields_of : List (List ℕ) → Option (List Field)
fields_of [] = Some []
fields_of (line ∷ lines) = option_and_then (λ f. option_map (λ fs. f ∷ fs) (fields_of lines)) (field_of line)

-- request-line *( field-line ) (RFC 9112 2.1), each without its line end
abbrev pub head_of : List (List ℕ) → Option Head
head_of [] = None
head_of (first ∷ lines) =
    option_and_then (λ s. option_map (λ fs. record { method = s.method; target = s.target; version = s.version; fields = fs }) (fields_of lines))
    (request_line_of first)

-- the word between the first two spaces, where there are two
abbrev pub second_word : List (List ℕ) → List ℕ
second_word (method ∷ target ∷ version ∷ more) = target
second_word _ = []

-- what stands in the first line where the target does, be it one or not
abbrev pub target_part : List (List ℕ) → List ℕ
target_part lines = second_word (slice_split is_space (first_of lines))

-- how many bytes one CRLF before the head takes, which is no part of it (RFC 9112 2.2)
abbrev pub leading_crlf : List ℕ → ℕ
leading_crlf bytes = if bytes_eq (take 2 bytes) (13 ∷ 10 ∷ []) then 2 else 0

abbrev pub whole_or_bad : ℕ → Option Head → HeadStep
whole_or_bad used None = Bad BadHead
whole_or_bad used (Some head) = Whole head used

-- field lines of a head at most
abbrev pub most_fields : ℕ
most_fields = 100

-- the answer where an empty line ended the head, which with a CRLF before it took so many bytes
abbrev pub step_at_end : Limits → ℕ → Front → HeadStep
step_at_end limits used front =
    if nat_lt limits.target (length (target_part front.lines)) then Bad TargetTooLong
    else (if nat_lt (most_fields + 1) (length front.lines) then Bad TooManyFields
    else whole_or_bad used (head_of front.lines))

-- the answer on so many bytes after a leading CRLF, by the front of those within the limit
abbrev pub step_by_front : Limits → ℕ → ℕ → Option Front → HeadStep
step_by_front limits before seen None = if nat_le limits.head seen then Bad HeadTooLong else More
step_by_front limits before seen (Some front) = step_at_end limits (before + front.len) front

-- What the bytes so far are. Nothing is refused before the empty line or the limit.
unfoldable pub read_head : Limits → List ℕ → HeadStep
read_head limits bytes =
    let before = leading_crlf bytes in
    let text = drop before bytes in
    step_by_front limits before (length text) (front_of (take limits.head text))

-- a whole head, the one answer that takes memory
abbrev pub is_whole : HeadStep → Bool
is_whole (Whole head used) = true
is_whole More = false
is_whole (Bad cause) = false

-- Where a search stands in the bytes so far, of which the leading CRLF and what lies past the limit
-- are no part.
abbrev pub IsSearchedHead : Limits → List ℕ → Search → Type 0
IsSearchedHead limits bytes search = IsSearched (take limits.head (drop (leading_crlf bytes) bytes)) search.start search.seen
