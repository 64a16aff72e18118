-- The reading of request heads against the grammar of `httparse`, which is that of RFC 9112 with the
-- line ends of its section 2.2.
use Rattle.std.specs.Prelude.{◌≡◌, ◌≢◌, ◌↔◌, ◌++◌, ◌<◌, ◌≤◌, ◌+◌, ◌-◌, ◌&&◌, ◌==◌, nat_le, if◌then◌else◌, ℕ, zero, suc, map, List, [], ◌∷◌, length, take, drop, Option, Some, None, option_and_then}
use Rattle.httparse.specs.Grammar.{Field as FieldLine, field_value, RequestHead, ReadsRequest}
use Rattle.host_base.specs.declared.fields.Field.{Field}
use Rattle.host_base.specs.declared.request.Version.{Version}
use Rattle.host_base.specs.declared.request.Version.TheVariants.{V10, V11}
use Rattle.host_base.specs.declared.request.Head.{Head}
use Rattle.host_base.specs.declared.limits.Limits.{Limits}
use Rattle.head_lines.specs.Lines.{Front, front_of}
use Rattle.head_reader.specs.declared.step.HeadStep.TheVariants.{Whole, More}
use Rattle.head_reader.specs.RequestHead.{head_of, leading_crlf, most_fields, read_head}

-- the version by the grammar's minor number
abbrev pub version_named : ℕ → Version
version_named zero = V10
version_named (suc n) = V11

-- the name, and the value without the white space around it
abbrev pub parsed_field : FieldLine → Field
parsed_field line = record { name = line.name; value = field_value line }

-- a head of the grammar without how it was spelled: line ends, and white space around values
abbrev pub parsed_head : RequestHead → Head
parsed_head r = record {
  method = r.method;
  target = r.target;
  version = version_named r.minor;
  fields = map parsed_field r.fields;
}

-- The bytes are exactly a head of the grammar, with no empty line before it and at most so many field
-- lines, and it is this one.
abbrev pub IsHead : ℕ → List ℕ → Head → Type 0
IsHead room bytes head =
    (r : RequestHead) × ReadsRequest bytes r [] × (r.blank ≡ []) × (length r.fields ≤ room) × (parsed_head r ≡ head)

-- the head that these bytes are, all of them, where they end with their first empty line
unfoldable pub whole_head : ℕ → List ℕ → Option Head
whole_head room bytes =
    option_and_then (λ front. if front.len == length bytes && nat_le (length front.lines) (room + 1) then head_of front.lines else None)
    (front_of bytes)

-- Which bytes are a head, and which head they are: by their lines as by the grammar.
abbrev pub SaysTheGrammar : Type 0
SaysTheGrammar = (room : ℕ) (bytes : List ℕ) (head : Head) → (whole_head room bytes ≡ Some head) ↔ IsHead room bytes head

-- The bytes up to the first empty line are a head by their lines exactly where they are one of the
-- grammar, which allows empty lines before a head.
abbrev pub FrontsSayTheGrammar : Type 0
FrontsSayTheGrammar = (bytes : List ℕ) (front : Front) (head : Head) → front_of bytes ≡ Some front → front.len ≡ length bytes
    → (head_of front.lines ≡ Some head) ↔ ((r : RequestHead) × ReadsRequest bytes r [] × (parsed_head r ≡ head))

-- At the front of a text stands one head at most.
abbrev pub HeadsAreUnique : Type 0
HeadsAreUnique = (room : ℕ) (bytes more bytes' more' : List ℕ) (head head' : Head) → IsHead room bytes head → IsHead room bytes' head'
    → bytes ++ more ≡ bytes' ++ more' → (bytes ≡ bytes') × (head ≡ head')

-- A head that was read is one of the grammar, exactly, after the leading CRLF, and not empty.
abbrev pub WholesAreHeads : Type 0
WholesAreHeads = (limits : Limits) (bytes : List ℕ) (head : Head) (used : ℕ) → read_head limits bytes ≡ Whole head used
    → (leading_crlf bytes < used) × (used ≤ length bytes) × IsHead most_fields (take (used - leading_crlf bytes) (drop (leading_crlf bytes) bytes)) head

-- A head of the grammar within the limits is read, with or without a CRLF before it, whatever follows.
abbrev pub HeadsAreRead : Type 0
HeadsAreRead = (limits : Limits) (bytes more : List ℕ) (head : Head) → IsHead most_fields bytes head
    → length bytes ≤ limits.head → length head.target ≤ limits.target
    → (read_head limits (bytes ++ more) ≡ Whole head (length bytes))
    × (read_head limits (13 ∷ 10 ∷ bytes ++ more) ≡ Whole head (2 + length bytes))

-- More bytes are waited for exactly where, after a leading CRLF, no empty line ends and the limit is
-- not reached.
abbrev pub MoreIsOpen : Type 0
MoreIsOpen = (limits : Limits) (bytes : List ℕ) → (read_head limits bytes ≡ More)
    ↔ ((front_of (drop (leading_crlf bytes) bytes) ≡ None) × (length (drop (leading_crlf bytes) bytes) < limits.head))

-- An answer that is not More stays, whatever bytes follow.
abbrev pub AnswersStay : Type 0
AnswersStay = (limits : Limits) (bytes more : List ℕ) → 2 ≤ limits.head → read_head limits bytes ≢ More
    → read_head limits (bytes ++ more) ≡ read_head limits bytes
