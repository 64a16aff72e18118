-- The first element that passes, as a place and as a number of elements before it.
use Rattle.std.proofs.Common.{◌≡◌, ℕ, suc, ◌+◌, ◌<◌, ◌≤◌, Bool, true, false, not, cond, ◌||◌, List, [], ◌∷◌, ◌++◌, map, take, length, Option, Some, None, refl, sym, ap, ◌∙◌, subst, arith, ltb, inl, inr}
use Rattle.std.specs.Option.{unwrap_or}
use Rattle.std.specs.List.{before_first, list_any, position, position_or_len}
use Rattle.std.proofs.lemmas.List.Sums.{prefix_len-le-length}
use Rattle.std.proofs.lemmas.Bool.{cases_Bool, cond-true, ltb-true, ltb-false, lt-ltb}
use Rattle.host_base.proofs.SplitLaws.{chosen}

pub position_or_len-le : {X : Type 0} (test : X → Bool) (xs : List X) → position_or_len test xs ≤ length xs
position_or_len-le test xs = prefix_len-le-length _ xs

pub position_at : {X : Type 0} (test : X → Bool) (xs : List X) (n : ℕ) → position test xs ≡ Some n
    → (n < length xs) × (position_or_len test xs ≡ n)
position_at test xs n is =
    elim (chosen (ltb (position_or_len test xs) (length xs)) _ _ _ is) [
      | inl found ↦
          let at : position_or_len test xs ≡ n = cc in
          let inside = ltb-true _ _ found.0 in
          (omega arith, at)
      | inr none ↦ absurd (cc)
    ]

pub position_past : {X : Type 0} (test : X → Bool) (xs : List X) → position test xs ≡ None → position_or_len test xs ≡ length xs
position_past test xs is =
    elim (chosen (ltb (position_or_len test xs) (length xs)) _ _ _ is) [
      | inl found ↦ absurd (cc)
      | inr none ↦
          let past = ltb-false _ _ none.0 in
          let within = position_or_len-le test xs in
          omega arith
    ]

pub unwrap_or-position : {X : Type 0} (test : X → Bool) (xs : List X) → unwrap_or (position test xs) (length xs) ≡ position_or_len test xs
unwrap_or-position test xs = by_case (position test xs) refl
  where
    by_case : (o : Option ℕ) → position test xs ≡ o → unwrap_or o (length xs) ≡ position_or_len test xs
    by_case None is = sym (position_past test xs is)
    by_case (Some n) is = sym (position_at test xs n is).1

pub neither : (a b : Bool) → (a || b) ≡ false → (a ≡ false) × (b ≡ false)
neither true b e = absurd (cc)
neither false b e = (refl, e)

pub list_any-map : {X Y : Type 0} (test : Y → Bool) (f : X → Y) (xs : List X) → list_any test (map f xs) ≡ list_any (λ x. test (f x)) xs
list_any-map test f [] = refl
list_any-map test f (x ∷ xs) = ap (λ b. test (f x) || b) (list_any-map test f xs)

pub position_is : {X : Type 0} (test : X → Bool) (xs : List X) (n : ℕ) → position_or_len test xs ≡ n → n < length xs → position test xs ≡ Some n
position_is test xs n at inside =
    cond-true (ltb (position_or_len test xs) (length xs)) (Some (position_or_len test xs)) None (lt-ltb _ _ (omega arith)) ∙ ap (λ (k : ℕ). Some k) at

-- ---- a front and what follows it

-- nothing, or an element that passes first
abbrev pub begins_passing : {X : Type 0} → (X → Bool) → List X → Bool
begins_passing test [] = true
begins_passing test (x ∷ xs) = test x

pub front_len : {X : Type 0} (test : X → Bool) (front back : List X) → list_any test front ≡ false → begins_passing test back ≡ true
    → position_or_len test (front ++ back) ≡ length front
front_len test [] [] none edge = refl
front_len test [] (b ∷ back) none edge = ap (λ (t : Bool). cond (not t) (1 + position_or_len test back) 0) edge
front_len test (f ∷ front) back none edge =
    let parts = neither (test f) (list_any test front) none in
    ap (λ (t : Bool). cond (not t) (1 + position_or_len test (front ++ back)) 0) parts.0 ∙ omega (arith, front_len test front back parts.1 edge)

pub front_fails : {X : Type 0} (test : X → Bool) (xs : List X) → list_any test (before_first test xs) ≡ false
front_fails test [] = refl
front_fails {X} test (x ∷ xs) =
    let n = position_or_len test xs in
    let next : 1 + n ≡ suc n = omega arith in
    elim (cases_Bool (test x)) [
      | inl here ↦ subst (λ (t : Bool). list_any test (take (cond (not t) (1 + n) 0) (x ∷ xs)) ≡ false) (sym here) refl
      | inr other ↦
          subst (λ (t : Bool). list_any test (take (cond (not t) (1 + n) 0) (x ∷ xs)) ≡ false) (sym other)
          (subst (λ (k : ℕ). list_any test (take k (x ∷ xs)) ≡ false) (sym next)
          (ap (λ (t : Bool). t || list_any test (take n xs)) other ∙ front_fails test xs))
    ]
