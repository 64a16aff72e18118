-- What holds of how the body of a request is delimited (RFC 9112 6.3).
use Rattle.std.specs.Prelude.{◌≡◌, ◌≢◌, ◌⊎◌, ◌↔◌, ℕ, ◌+◌, ◌-◌, ◌*◌, ◌<◌, ◌≤◌, true, false, List, [], ◌∷◌, length, All, Any, fold, Ok, Err, codes}
use Rattle.std.specs.Char.{is_ascii_digit}
use Rattle.std.specs.Str.{str_eq_ignore_ascii_case}
use Rattle.httparse.specs.Grammar.{trim_ows}
use Rattle.host_base.specs.FieldLists.{field_words, values_named}
use Rattle.host_base.specs.declared.cause.Cause.{Cause}
use Rattle.host_base.specs.declared.cause.Cause.TheVariants.{BadFraming, BodyTooLong, CodingUnknown}
use Rattle.host_base.specs.declared.limits.Limits.{Limits}
use Rattle.host_base.specs.declared.request.Framing.TheVariants.{Empty, Length, Chunked}
use Rattle.host_base.specs.declared.request.Head.{Head}
use Rattle.host_base.specs.declared.request.Version.TheVariants.{V10, V11}
use Rattle.body_framing.specs.Framing.{framing_of}

-- the values of Content-Length, and of Transfer-Encoding
abbrev pub lengths_of : Head → List (List ℕ)
lengths_of head = values_named (codes "Content-Length") head.fields

abbrev pub codings_of : Head → List (List ℕ)
codings_of head = values_named (codes "Transfer-Encoding") head.fields

-- the transfer codings of a message: the list of all lines together (RFC 9110 5.3)
abbrev pub coding_names : Head → List (List ℕ)
coding_names head = field_words (codes "Transfer-Encoding") head.fields

-- names of transfer codings have no case (RFC 9112 7)
abbrev pub IsChunkedName : List ℕ → Type 0
IsChunkedName name = str_eq_ignore_ascii_case (codes "chunked") name ≡ true

abbrev pub IsOtherName : List ℕ → Type 0
IsOtherName name = str_eq_ignore_ascii_case (codes "chunked") name ≡ false

-- ---- a body in chunks

-- chunked once and alone, in HTTP/1.1, and no length beside it (RFC 9112 6.1)
pub record IsChunkedHead (head : Head) : Type 0 where
  pub version : head.version ≡ V11
  pub alone : lengths_of head ≡ []
  pub once : (name : List ℕ) × (coding_names head ≡ name ∷ []) × IsChunkedName name

-- The body is in chunks exactly where chunked is the one coding, in HTTP/1.1, with no Content-Length.
abbrev pub ChunksAreCoded : Type 0
ChunksAreCoded = (head : Head) (limits : Limits) → (framing_of head limits ≡ Ok Chunked) ↔ IsChunkedHead head

-- ---- a body of known length

abbrev pub IsDigit : ℕ → Type 0
IsDigit byte = is_ascii_digit byte ≡ true

-- the number that decimal digits write, zeros at their front and all
abbrev pub number_written : List ℕ → ℕ
number_written digits = fold (λ number digit. number * 10 + (digit - 48)) 0 digits

-- Content-Length = 1*DIGIT (RFC 9110 8.6), but for the blanks around a field's value
pub record IsLengthOf (number : ℕ) (value : List ℕ) : Type 0 where
  pub some : 0 < length (trim_ows value)
  pub digits : All IsDigit (trim_ows value)
  pub names : number_written (trim_ows value) ≡ number

-- a Content-Length, each line of it with this number, and no Transfer-Encoding
pub record HasLength (number : ℕ) (head : Head) : Type 0 where
  pub uncoded : codings_of head ≡ []
  pub some : 0 < length (lengths_of head)
  pub each : All (IsLengthOf number) (lengths_of head)

-- The body has a length exactly where each Content-Length names it, with no Transfer-Encoding, and it is
-- within the limit.
abbrev pub LengthsAreNamed : Type 0
LengthsAreNamed = (head : Head) (limits : Limits) (number : ℕ)
    → (framing_of head limits ≡ Ok (Length number)) ↔ (HasLength number head × (number ≤ limits.body))

-- ---- no body

-- There is no body exactly where neither field stands.
abbrev pub BodilessHaveNeither : Type 0
BodilessHaveNeither = (head : Head) (limits : Limits) → (framing_of head limits ≡ Ok Empty) ↔ ((codings_of head ≡ []) × (lengths_of head ≡ []))

-- ---- what is refused

-- Both fields together are refused, whatever they say, since who heeds one sees another end of the body than
-- who heeds the other (RFC 9112 6.3 and 11.2).
abbrev pub TwoFramingsAreRefused : Type 0
TwoFramingsAreRefused = (head : Head) (limits : Limits) → 0 < length (codings_of head) → 0 < length (lengths_of head)
    → framing_of head limits ≡ Err BadFraming

-- a coding where none may stand: in HTTP/1.0, or beside a length
pub record IsMisplaced (head : Head) : Type 0 where
  pub coded : 0 < length (codings_of head)
  pub where_none : (head.version ≡ V10) ⊎ (0 < length (lengths_of head))

-- codings that may stand, of which one is not served
pub record IsUnknown (head : Head) : Type 0 where
  pub version : head.version ≡ V11
  pub alone : lengths_of head ≡ []
  pub other : Any IsOtherName (coding_names head)

-- chunked where it may stand, but not once: the field without a name in it, or a body in chunks of chunks
pub record IsMiscounted (head : Head) : Type 0 where
  pub version : head.version ≡ V11
  pub alone : lengths_of head ≡ []
  pub coded : 0 < length (codings_of head)
  pub chunked : All IsChunkedName (coding_names head)
  pub not_once : length (coding_names head) ≢ 1

-- a Content-Length without one number: a line has none, or two lines differ
pub record IsUnclear (head : Head) : Type 0 where
  pub uncoded : codings_of head ≡ []
  pub some : 0 < length (lengths_of head)
  pub none : (number : ℕ) → HasLength number head → ⊥

-- The causes, each exactly where it is due, and no other.
pub record CausesAreDue (head : Head) (limits : Limits) : Type 0 where
  pub unknown : (framing_of head limits ≡ Err CodingUnknown) ↔ IsUnknown head
  pub long : (framing_of head limits ≡ Err BodyTooLong) ↔ ((number : ℕ) × HasLength number head × (limits.body < number))
  pub bad : (framing_of head limits ≡ Err BadFraming) ↔ (IsMisplaced head ⊎ (IsMiscounted head ⊎ IsUnclear head))
  pub no_other : (cause : Cause) → framing_of head limits ≡ Err cause → (cause ≡ CodingUnknown) ⊎ ((cause ≡ BodyTooLong) ⊎ (cause ≡ BadFraming))

abbrev pub FramingCauses : Type 0
FramingCauses = (head : Head) (limits : Limits) → CausesAreDue head limits
