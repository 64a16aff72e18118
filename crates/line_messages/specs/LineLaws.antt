-- What the messages of an output mean.
use Rattle.std.specs.Prelude.{◌≡◌, ◌↔◌, ℕ, ◌<◌, true, false, List, [], ◌∷◌, ◌++◌, length, flat_map, All, IsUtf8}
use Rattle.head_lines.specs.Lines.{HasNoLf, with_lf, without_cr}
use Rattle.line_messages.specs.Lines.{ended_lines, has_long_line, input, last, lines, lines_within, message_of, open_line}

-- the output is lines, each with its LF, and what stands behind the last one
pub record HasLines (output : List ℕ) : Type 0 where
  pub ended : List (List ℕ)
  pub behind : List ℕ
  pub output_is : output ≡ flat_map with_lf ended ++ behind
  pub each : All HasNoLf ended
  pub no_lf : HasNoLf behind

-- every output is lines
abbrev pub OutputsAreLines : Type 0
OutputsAreLines = (output : List ℕ) → HasLines output

-- and is read as these: the last one is a message where it isn't empty
pub record LinesAreRead : Type 0 where
  pub ended : (parts : List (List ℕ)) (rest : List ℕ) → All HasNoLf parts → HasNoLf rest → ended_lines (flat_map with_lf parts ++ rest) ≡ parts
  pub behind : (parts : List (List ℕ)) (rest : List ℕ) → All HasNoLf parts → HasNoLf rest → open_line (flat_map with_lf parts ++ rest) ≡ rest
  pub last_empty : (parts : List (List ℕ)) → All HasNoLf parts → last (flat_map with_lf parts) ≡ []
  pub last_filled : (parts : List (List ℕ)) (rest : List ℕ) → All HasNoLf parts → HasNoLf rest → 0 < length rest
      → last (flat_map with_lf parts ++ rest) ≡ message_of rest ∷ []

-- the lines of joined outputs: those of the first, then those of the rest joined to what stands behind them
pub record LinesOfJoined (output more : List ℕ) : Type 0 where
  pub lines_are : lines (output ++ more) ≡ lines output ++ lines (open_line output ++ more)
  pub behind : open_line (output ++ more) ≡ open_line (open_line output ++ more)

abbrev pub LinesJoin : Type 0
LinesJoin = (output more : List ℕ) → LinesOfJoined output more

-- a message is the same whatever follows: with a limit too
abbrev pub LinesStay : Type 0
LinesStay = (limit : ℕ) (output more : List ℕ)
    → (new : List (List ℕ)) × (lines_within limit (output ++ more) ≡ lines_within limit output ++ new)

-- more bytes than the limit in a row without an LF
pub record HasLongRun (limit : ℕ) (output : List ℕ) : Type 0 where
  pub before : List ℕ
  pub run : List ℕ
  pub after : List ℕ
  pub output_is : output ≡ before ++ (run ++ after)
  pub no_lf : HasNoLf run
  pub long : limit < length run

abbrev pub LongLinesAreRuns : Type 0
LongLinesAreRuns = (limit : ℕ) (output : List ℕ) → (has_long_line limit output ≡ true) ↔ HasLongRun limit output

-- where no line is too long, the limit changes nothing; where one is, nothing more comes
pub record LimitsCut : Type 0 where
  pub within : (limit : ℕ) (output : List ℕ) → has_long_line limit output ≡ false → lines_within limit output ≡ lines output
  pub past : (limit : ℕ) (output more : List ℕ) → has_long_line limit output ≡ true → lines_within limit (output ++ more) ≡ lines_within limit output

-- a line that is UTF-8 is its own message
abbrev pub TextsAreThemselves : Type 0
TextsAreThemselves = (line : List ℕ) → IsUtf8 (without_cr line) → message_of line ≡ without_cr line

-- a text that a line can say
pub record IsSayable (text : List ℕ) : Type 0 where
  pub utf8 : IsUtf8 text
  pub no_lf : HasNoLf text
  pub no_cr : without_cr text ≡ text

-- such texts are read back from the input that says them
pub record ReadsBack (texts : List (List ℕ)) : Type 0 where
  pub lines_are : lines (input texts) ≡ texts
  pub nothing_left : last (input texts) ≡ []

abbrev pub InputsReadBack : Type 0
InputsReadBack = (texts : List (List ℕ)) → All IsSayable texts → ReadsBack texts
