-- What holds of the reading of headers.
use Rattle.std.specs.Prelude.{◌≡◌, ◌≢◌, ◌↔◌, ℕ, ◌<◌, ◌≤◌, List, [], ◌∷◌, ◌++◌, length, drop, filter, map, count_by, All, true, Some, None, is_some, codes}
use Rattle.httparse.specs.Grammar.{Field as FieldLine, IsField, LineEnd, ReadsSection, print_section}
use Rattle.host_base.specs.declared.cause.Cause.{Cause}
use Rattle.host_base.specs.declared.fields.Field.{Field}
use Rattle.host_base.specs.FieldLists.{is_named}
use Rattle.head_lines.specs.Lines.{front_of}
use Rattle.head_reader.specs.HeadLaws.{parsed_field}
use Rattle.cgi_header.specs.declared.header.CgiHead.{CgiHead}
use Rattle.cgi_header.specs.declared.header.HdrStep.TheVariants.{Whole, More}
use Rattle.cgi_header.specs.ScriptHeader.{most_header, has_value, is_status, status_of, fault_of_line, first_fault, head_of, read_header}

-- More bytes are waited for exactly where no empty line ends and the limit is not reached.
abbrev pub MoreIsOpen : Type 0
MoreIsOpen = (output : List ℕ) → (read_header output ≡ More) ↔ ((front_of output ≡ None) × (length output < most_header))

-- A header that is whole, and one that is refused, stays, whatever bytes follow.
abbrev pub HeadersStay : Type 0
HeadersStay = (output more : List ℕ) → read_header output ≢ More → read_header (output ++ more) ≡ read_header output

-- A line is refused for a cause, and none before it is.
pub record IsFirstFault (lines : List (List ℕ)) (cause : Cause) : Type 0 where
  pub before : List (List ℕ)
  pub line : List ℕ
  pub after : List (List ℕ)
  pub whole : lines ≡ before ++ line ∷ after
  pub taken : first_fault [] before ≡ None
  pub refused : fault_of_line before line ≡ Some cause

-- The cause is that of the first line that is refused.
abbrev pub FaultsAreFirst : Type 0
FaultsAreFirst = (lines : List (List ℕ)) (cause : Cause) → (first_fault [] lines ≡ Some cause) ↔ IsFirstFault lines cause

-- Content-Type, Location and Status stand once at most, and Status has a final status (RFC 3875 6.3).
pub record AreTaken (fields : List Field) : Type 0 where
  pub types : count_by (is_named (codes "Content-Type")) fields ≤ 1
  pub locations : count_by (is_named (codes "Location")) fields ≤ 1
  pub statuses : count_by (is_named (codes "Status")) fields ≤ 1
  pub final : All (λ f. is_status f ≡ true → is_some (status_of f.value) ≡ true) fields

-- Up to and with the first empty line an output is field lines of the grammar, within the limit, and the header is
-- those that have a value, which are taken.
pub record IsHeader (output : List ℕ) (head : CgiHead) (used : ℕ) : Type 0 where
  pub lines : List FieldLine
  pub last : LineEnd
  pub reads : ReadsSection output lines last (drop used output)
  pub long : used ≡ length (print_section lines last)
  pub within : used ≤ most_header
  pub head_is : head ≡ head_of (filter has_value (map parsed_field lines))
  pub taken : AreTaken (filter has_value (map parsed_field lines))

-- What is read as whole is a header.
abbrev pub WholesAreHeaders : Type 0
WholesAreHeaders = (output : List ℕ) (head : CgiHead) (used : ℕ) → read_header output ≡ Whole head used → IsHeader output head used

-- Each header of the grammar within the limit whose fields are taken is read, whatever follows.
abbrev pub HeadersAreRead : Type 0
HeadersAreRead = (lines : List FieldLine) (last : LineEnd) (more : List ℕ) → All IsField lines
    → length (print_section lines last) ≤ most_header → AreTaken (filter has_value (map parsed_field lines))
    → read_header (print_section lines last ++ more)
    ≡ Whole (head_of (filter has_value (map parsed_field lines))) (length (print_section lines last))
