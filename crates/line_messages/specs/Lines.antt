-- A program's output as messages, and messages as its input: a message is a line. That an ended line is a message is
-- the rule of websocketd; that a last line without its end is one too is a choice of this project.
use Rattle.std.specs.Prelude.{ℕ, Bool, List, [], ◌∷◌, length, map, flat_map, ◌==◌, nat_lt, if◌then◌else◌, encode_utf8_all}
use Rattle.std.specs.List.{slice_split, list_any}
use Rattle.bstr.specs.Utf8.{lossy_chars}
use Rattle.head_lines.specs.Lines.{is_lf, with_lf, without_cr}

-- bytes as a text, with U+FFFD for each longest piece that is none (Unicode 3.9, as `bstr` reads)
abbrev pub as_text : List ℕ → List ℕ
as_text bytes = encode_utf8_all (lossy_chars bytes)

-- the message of a line: its text without one CR at its end
abbrev pub message_of : List ℕ → List ℕ
message_of line = as_text (without_cr line)

-- all parts but the last
abbrev pub front_parts : List (List ℕ) → List (List ℕ)
front_parts [] = []
front_parts (part ∷ []) = []
front_parts (part ∷ next ∷ parts) = part ∷ front_parts (next ∷ parts)

-- the last of some parts
abbrev pub last_part : List (List ℕ) → List ℕ
last_part [] = []
last_part (part ∷ []) = part
last_part (part ∷ next ∷ parts) = last_part (next ∷ parts)

-- the lines of an output that LF ends, each without it
unfoldable pub ended_lines : List ℕ → List (List ℕ)
ended_lines output = front_parts (slice_split is_lf output)

-- what stands behind the last LF of an output
unfoldable pub open_line : List ℕ → List ℕ
open_line output = last_part (slice_split is_lf output)

-- the messages of the lines that have ended
abbrev pub lines : List ℕ → List (List ℕ)
lines output = map message_of (ended_lines output)

-- at the end of the output: the message of what stands behind the last LF, if anything does
abbrev pub last : List ℕ → List (List ℕ)
last output = if length (open_line output) == 0 then [] else message_of (open_line output) ∷ []

-- the input that says these texts: each with LF behind it
abbrev pub input : List (List ℕ) → List ℕ
input texts = flat_map with_lf texts

-- ---- the limit on a line

-- a line with more bytes than the limit, a CR counted
abbrev pub is_long : ℕ → List ℕ → Bool
is_long limit line = nat_lt limit (length line)

-- more bytes than the limit stand in a row without an LF
unfoldable pub has_long_line : ℕ → List ℕ → Bool
has_long_line limit output = list_any (is_long limit) (slice_split is_lf output)

-- the lines before the first one that is too long
abbrev pub before_long : ℕ → List (List ℕ) → List (List ℕ)
before_long limit [] = []
before_long limit (line ∷ more) = if is_long limit line then [] else line ∷ before_long limit more

-- the messages of the lines that have ended before one is too long
abbrev pub lines_within : ℕ → List ℕ → List (List ℕ)
lines_within limit output = map message_of (before_long limit (ended_lines output))

-- at the end of the output: its last message, unless a line is too long
abbrev pub last_within : ℕ → List ℕ → List (List ℕ)
last_within limit output = if has_long_line limit output then [] else last output
