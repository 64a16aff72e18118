-- An output in pieces.
use Rattle.std.specs.Prelude.{ℕ, ◌≤◌, List, length}

pub record IsPiece (bytes : List ℕ) : Type 0 where
  pub some : 1 ≤ length bytes
  pub few : length bytes ≤ 65536
