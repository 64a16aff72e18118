-- What the store of site files and the sink of reports tell, and how their counts rise.
use Rattle.std.specs.Prelude.{ℕ, ◌≡◌, ◌+◌, ◌-◌, ◌^◌, ◌≤◌, min, List, [], ◌∷◌, ◌++◌, take, Option, Some, None, if◌then◌else◌}
use Rattle.std.specs.Str.{bytes_eq}

-- a count of faults rose, or stands at the last value of a u64
abbrev pub Rose : ℕ → ℕ → Type 0
Rose before now = min (before + 1) (2 ^ 64 - 1) ≤ now

-- a name in a store and its bytes
pub record Stored : Type 0 where
  pub name : List ℕ
  pub bytes : List ℕ

-- the bytes under a name
abbrev pub stored_at : List ℕ → List Stored → Option (List ℕ)
stored_at name [] = None
stored_at name (s ∷ stored) = if bytes_eq name s.name then Some s.bytes else stored_at name stored

-- where the store tells what it holds, it holds these bytes under the name
abbrev pub Holds : Option (List Stored) → List ℕ → List ℕ → Type 0
Holds told name bytes = (stored : List Stored) → told ≡ Some stored → stored_at name stored ≡ Some bytes

-- now is what was put before, and then the piece
pub record PutAfter (before : Option (List ℕ)) (piece now : List ℕ) : Type 0 where
  pub was : List ℕ
  pub told : before ≡ Some was
  pub grew : now ≡ was ++ piece

-- where the sink tells afterwards, it told before, and the piece was put
abbrev pub Puts : Option (List ℕ) → List ℕ → Option (List ℕ) → Type 0
Puts before piece after = (now : List ℕ) → after ≡ Some now → PutAfter before piece now

-- now is what was put before, and then a front of the piece
pub record PutPart (before : Option (List ℕ)) (piece now : List ℕ) : Type 0 where
  pub was : List ℕ
  pub count : ℕ
  pub told : before ≡ Some was
  pub grew : now ≡ was ++ take count piece

-- where the sink tells afterwards, it told before, and a front of the piece was put
abbrev pub PutsPart : Option (List ℕ) → List ℕ → Option (List ℕ) → Type 0
PutsPart before piece after = (now : List ℕ) → after ≡ Some now → PutPart before piece now
