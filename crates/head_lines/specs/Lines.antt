-- The lines of a text: a line ends at LF, and one CR before it belongs to the line end (RFC 9112 2.2).
use Rattle.std.specs.Prelude.{◌≡◌, ℕ, ◌+◌, ◌<◌, ◌≤◌, Bool, false, List, [], ◌∷◌, ◌++◌, length, take, slice_index, All, Option, Some, None, option_map, if◌then◌else◌, ◌==◌}
use Rattle.std.specs.List.{slice_split, flat_map, before_first}

-- the byte at which a line ends
abbrev pub is_lf : ℕ → Bool
is_lf byte = byte == 10

-- the bytes without one CR at their end
abbrev pub without_cr : List ℕ → List ℕ
without_cr [] = []
without_cr (byte ∷ []) = if byte == 13 then [] else byte ∷ []
without_cr (byte ∷ next ∷ bytes) = byte ∷ without_cr (next ∷ bytes)

-- the first line of a text, without its end; all of the text where no line ends in it
abbrev pub first_line : List ℕ → List ℕ
first_line text = without_cr (before_first is_lf text)

-- the front of a text, up to and including its first empty line: the lines before that one, without
-- their ends, and how many bytes all of it has
pub record Front : Type 0 where
  pub lines : List (List ℕ)
  pub len : ℕ

-- one line more at the front, of so many bytes with its end
abbrev pub with_line : List ℕ → ℕ → Front → Front
with_line line len front = record { lines = line ∷ front.lines; len = len + front.len }

-- the front by the parts of a text between its LFs; the last part is ended by none
unfoldable pub front_of_parts : List (List ℕ) → Option Front
front_of_parts [] = None
front_of_parts (rest ∷ []) = None
front_of_parts (part ∷ next ∷ parts) =
    if length (without_cr part) == 0 then Some (record { lines = []; len = length part + 1 })
    else option_map (with_line (without_cr part) (length part + 1)) (front_of_parts (next ∷ parts))

-- the front of a text, or None where no empty line ends in it
abbrev pub front_of : List ℕ → Option Front
front_of text = front_of_parts (slice_split is_lf text)

-- how many bytes the front has
abbrev pub front_len : List ℕ → Option ℕ
front_len text = option_map (λ front. front.len) (front_of text)

-- bytes and the LF that ends them
abbrev pub with_lf : List ℕ → List ℕ
with_lf part = part ++ 10 ∷ []

abbrev pub HasNoLf : List ℕ → Type 0
HasNoLf part = All (λ byte. is_lf byte ≡ false) part

-- what stands before the LF of a line that is not empty
pub record IsFilled (part : List ℕ) : Type 0 where
  pub no_lf : HasNoLf part
  pub some : 0 < length (without_cr part)

-- Where a search for the first empty line stands: the text up to start is lines that are not empty,
-- and no LF stands from there to seen. More bytes change nothing of it.
pub record IsSearched (text : List ℕ) (start seen : ℕ) : Type 0 where
  pub lines : List (List ℕ)
  pub before : take start text ≡ flat_map with_lf lines
  pub filled : All IsFilled lines
  pub ordered : start ≤ seen
  pub inside : seen ≤ length text
  pub none : (k : ℕ) → start ≤ k → k < seen → is_lf (slice_index text k) ≡ false

-- the first of some lines, or an empty one
abbrev pub first_of : List (List ℕ) → List ℕ
first_of [] = []
first_of (line ∷ lines) = line
