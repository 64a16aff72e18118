-- Fronts of texts.
use Rattle.std.proofs.Common.{◌≡◌, ℕ, true, List, ◌++◌, length, drop, refl}
use Rattle.std.specs.Prelude.{nat_eq}
use Rattle.std.specs.Bool.{Decides}
use Rattle.std.specs.List.{starts_with}
use Rattle.std.proofs.lemmas.Bool.{eqb-true, eq-eqb}
use Rattle.std.proofs.lemmas.Slice.Eq.{starts_is}

eq_decides : (a b : ℕ) → Decides (nat_eq a b) (a ≡ b)
eq_decides a b = (eqb-true a b, eq-eqb a b)

pub front_is : (bytes head : List ℕ) → starts_with nat_eq bytes head ≡ true → bytes ≡ head ++ drop (length head) bytes
front_is bytes head is = (starts_is eq_decides bytes head (starts_with nat_eq bytes head) refl).0 is

pub front_stands : (head rest : List ℕ) → starts_with nat_eq (head ++ rest) head ≡ true
front_stands head rest = (starts_is eq_decides (head ++ rest) head (starts_with nat_eq (head ++ rest) head) refl).1 rest refl
