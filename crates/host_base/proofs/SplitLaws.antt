-- What a list is cut into at its first element that passes a test.
use Rattle.std.proofs.Common.{arith, ◌≡◌, ℕ, ◌+◌, ◌<◌, Bool, true, false, List, [], ◌∷◌, take, drop, length, Some, None, refl, ◌∙◌, inl, inr, cond, ltb}
use Rattle.std.specs.Prelude.{◌⊎◌}
use Rattle.std.specs.List.{slice_split, position, position_or_len}
use Rattle.std.proofs.lemmas.List.Elements.{All-from_get_or}
use Rattle.std.proofs.lemmas.List.Splits.{slice_split_none, slice_split_first}
use Rattle.std.proofs.lemmas.List.Sums.{fails_before_first}
use Rattle.std.proofs.lemmas.Bool.{ltb-true, ltb-false}

-- which branch of a choice gave its value
pub chosen : {A : Type 0} (b : Bool) (x y z : A) → cond b x y ≡ z → ((b ≡ true) × (x ≡ z)) ⊎ ((b ≡ false) × (y ≡ z))
chosen true x y z e = inl (refl, e)
chosen false x y z e = inr (refl, e)

-- the first part ends at the first element that passes
pub slice_split-at_position : (test : ℕ → Bool) (xs : List ℕ) (n : ℕ) → position test xs ≡ Some n
    → (n < length xs) × (slice_split test xs ≡ take n xs ∷ slice_split test (drop (n + 1) xs))
slice_split-at_position test xs n is =
    elim (chosen (ltb (position_or_len test xs) (length xs)) _ _ _ is) [
      | inl found ↦
          let at : position_or_len test xs ≡ n = cc in
          let inside = ltb-true _ _ found.0 in
          (omega arith, slice_split_first test xs 0 inside ∙ (λ i. take (at i) xs ∷ slice_split test (drop (at i + 1) xs)))
      | inr none ↦ absurd (cc)
    ]

-- where no element passes there is one part
pub slice_split-no_position : (test : ℕ → Bool) (xs : List ℕ) → position test xs ≡ None → slice_split test xs ≡ xs ∷ []
slice_split-no_position test xs is =
    elim (chosen (ltb (position_or_len test xs) (length xs)) _ _ _ is) [
      | inl found ↦ absurd (cc)
      | inr none ↦
          let past = ltb-false _ _ none.0 in
          slice_split_none test xs (All-from_get_or (λ x. test x ≡ false) xs 0 λ k below. fails_before_first test xs k 0 (omega arith))
    ]
