-- Rows by the numbers of what they count.
use Rattle.std.specs.Prelude.{ℕ, ◌≡◌, Bool, Option, Some, None, ◌==◌, ◌+◌, nat_lt, nat_eq, if◌then◌else◌}
use Rattle.std.specs.HashMap.{HashMap, get}

module _ {A S : Type 0} where
  abbrev pub row_at : HashMap ℕ A S → ℕ → Option A
  row_at rows number = get nat_eq rows number

  -- a row that is there now is this one, or was there before
  abbrev pub Puts : HashMap ℕ A S → ℕ → Option A → HashMap ℕ A S → Type 0
  Puts old number row new = (q : ℕ) (t : A) → row_at new q ≡ Some t → (if q == number then row else row_at old q) ≡ Some t

  -- .. and none was lost
  abbrev pub PutsAll : HashMap ℕ A S → ℕ → Option A → HashMap ℕ A S → Type 0
  PutsAll old number row new = (q : ℕ) → row_at new q ≡ (if q == number then row else row_at old q)

-- a row is kept while it passes
abbrev pub kept : {A : Type 0} → (A → Bool) → Option A → Option A
kept test None = None
kept test (Some row) = if test row then Some row else None

-- the bound once this number was named
abbrev pub past : ℕ → ℕ → ℕ
past named number = if nat_lt named (number + 1) then number + 1 else named
