-- What holds of the front of every text.
use Rattle.std.specs.Prelude.{◌≡◌, ℕ, ◌+◌, ◌≤◌, ◌↔◌, List, [], ◌++◌, length, take, map, All, Some}
use Rattle.std.specs.List.{flat_map}
use Rattle.head_lines.specs.Lines.{without_cr, Front, front_of, with_lf, HasNoLf, IsFilled}

-- what stands before the LF of an empty line
pub record IsEmpty (part : List ℕ) : Type 0 where
  pub no_lf : HasNoLf part
  pub none : without_cr part ≡ []

-- the text is lines that are not empty, an empty one, and a rest
pub record HasFront (text : List ℕ) (front : Front) : Type 0 where
  pub parts : List (List ℕ)
  pub last : List ℕ
  pub rest : List ℕ
  pub text_is : text ≡ flat_map with_lf parts ++ (with_lf last ++ rest)
  pub lines_are : front.lines ≡ map without_cr parts
  pub len_is : front.len ≡ length (flat_map with_lf parts) + (length last + 1)
  pub each : All IsFilled parts
  pub ends : IsEmpty last

-- A text has a front exactly where it is such lines.
abbrev pub FrontsAreLines : Type 0
FrontsAreLines = (text : List ℕ) (front : Front) → (front_of text ≡ Some front) ↔ HasFront text front

-- A front is the same whatever follows.
abbrev pub FrontsStay : Type 0
FrontsStay = (text more : List ℕ) (front : Front) → front_of text ≡ Some front → front_of (text ++ more) ≡ Some front

-- The bytes of a front have that front by themselves.
abbrev pub FrontsStandAlone : Type 0
FrontsStandAlone = (text : List ℕ) (front : Front) → front_of text ≡ Some front
    → (front.len ≤ length text) × (front_of (take front.len text) ≡ Some front)
