-- What a step of a connection leaves of the table of children.
use Rattle.std.specs.Prelude.{ℕ, Bool, false, ◌==◌, Option, Some, None, if◌then◌else◌}

-- it is k
abbrev pub is_child : Option ℕ → ℕ → Bool
is_child None k = false
is_child (Some j) k = j == k

abbrev pub one_if : Option ℕ → ℕ
one_if None = 0
one_if (Some k) = 1

-- the owner of k, where the child of c was `before` and is `after`
abbrev pub kept : ℕ → Option ℕ → Option ℕ → ℕ → Option ℕ → Option ℕ
kept c before after k old = if is_child before k then (if is_child after k then old else None) else (if is_child after k then Some c else old)
