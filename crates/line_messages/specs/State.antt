-- What the reading of an output keeps.
use Rattle.std.specs.Prelude.{ℕ, Bool, List}

pub record Reading : Type 0 where
  -- the most bytes that a line may have
  pub limit : ℕ
  -- what stands behind the last LF
  pub rest : List ℕ
  -- a line was too long
  pub over : Bool
  -- the end of the output was heard
  pub ended : Bool
