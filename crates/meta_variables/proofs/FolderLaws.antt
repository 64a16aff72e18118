-- What the code needs of the folder of a program.
use Rattle.std.proofs.Common.{◌≡◌, ◌≢◌, ℕ, zero, suc, ◌+◌, ◌-◌, ◌<◌, ◌≤◌, Bool, true, false, ◌&&◌, not, List, [], ◌∷◌, length, take, get_or, refl, sym, ap, ◌∙◌, arith}
use Rattle.std.specs.List.{before_last, suffix_len, list_any}
use Rattle.std.proofs.lemmas.List.{length-take-le}
use Rattle.std.proofs.lemmas.List.Sums.{suffix_len_is}
use Rattle.std.proofs.lemmas.Bool.{cond-true, cond-false, eq-eqb, ne_eqb, lt-ltb, le-ltb, or_left, or_right, and_from}
use Rattle.script_map.specs.DotSegments.{is_slash}
use Rattle.meta_variables.specs.Launch.{folder_of}

any_at : (p : ℕ → Bool) (xs : List ℕ) (at : ℕ) → at < length xs → p (get_or xs at 0) ≡ true → list_any p xs ≡ true
any_at p [] at within here = absurd (omega arith)
any_at p (x ∷ xs) zero within here = or_left _ _ here
any_at p (x ∷ xs) (suc at) within here = or_right _ _ (any_at p xs at (omega arith) here)

none_at : (p : ℕ → Bool) (xs : List ℕ) → ((i : ℕ) → i < length xs → p (get_or xs i 0) ≡ false) → list_any p xs ≡ false
none_at p [] other = refl
none_at p (x ∷ xs) other = rw (other 0 (omega arith)) (none_at p xs (λ i h. other (suc i) (omega arith)))

-- the last slash of a program stands there
pub record IsLastSlash (program : List ℕ) (at : ℕ) : Type 0 where
  pub within : at < length program
  pub here : get_or program at 0 ≡ 47
  pub last : (i : ℕ) → at < i → i < length program → get_or program i 0 ≢ 47

before_slash : (program : List ℕ) (at : ℕ) → IsLastSlash program at → before_last is_slash program ≡ take at program
before_slash program at slash =
    let back : at + 1 - 1 ≡ at = omega arith in
    let rest : suffix_len (λ (b : ℕ). not (is_slash b)) program ≡ length program - (at + 1) =
    suffix_len_is (λ (b : ℕ). not (is_slash b)) program (at + 1) 0 (omega (arith, slash.within))
    (λ k above below. ap not (ne_eqb (get_or program k 0) 47 (slash.last k (omega arith) below)))
    (λ _. ap (λ (b : ℕ). not (is_slash b)) (ap (λ (k : ℕ). get_or program k 0) back ∙ slash.here)) in
    let is : length program - suffix_len (λ (b : ℕ). not (is_slash b)) program - 1 ≡ at = omega (arith, rest, slash.within) in
    ap (λ (n : ℕ). take n program) is

length_before : (program : List ℕ) (at : ℕ) → IsLastSlash program at → length (before_last is_slash program) ≡ at
length_before program at slash =
    ap length (before_slash program at slash) ∙ length-take-le at program (omega (arith, slash.within))

pub folder_before : (program : List ℕ) (at : ℕ) → IsLastSlash program at → 0 < at → take at program ≡ folder_of program
folder_before program at slash some =
    let any = any_at is_slash program at slash.within (eq-eqb _ _ slash.here) in
    let filled : 0 < length (before_last is_slash program) = omega (arith, length_before program at slash) in
    sym (cond-true _ _ _ (and_from _ _ any (lt-ltb _ _ filled)) ∙ before_slash program at slash)

and_no : (a b : Bool) → b ≡ false → (a && b) ≡ false
and_no true b other = other
and_no false b other = refl

pub folder_first : (program : List ℕ) (at : ℕ) → IsLastSlash program at → at ≡ 0 → 47 ∷ [] ≡ folder_of program
folder_first program at slash none =
    let empty : length (before_last is_slash program) ≤ 0 = omega (arith, length_before program at slash) in
    sym (cond-false _ _ _ (and_no _ _ (le-ltb _ _ empty)))

pub folder_none : (program : List ℕ) → ((i : ℕ) → i < length program → get_or program i 0 ≢ 47) → 47 ∷ [] ≡ folder_of program
folder_none program other =
    let none = none_at is_slash program (λ i within. ne_eqb _ _ (other i within)) in
    rw none refl
