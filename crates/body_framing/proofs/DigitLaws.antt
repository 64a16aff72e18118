-- Digits without zeros before them are those of one number alone.
use Rattle.std.proofs.Common.{◌≡◌, ℕ, ◌+◌, ◌-◌, ◌*◌, ◌<◌, ◌≤◌, false, List, [], ◌∷◌, ◌++◌, length, take, drop, refl, sym, ap, ◌∙◌, arith, subst, inl, inr, eqb}
use Rattle.std.specs.Prelude.{All}
use Rattle.std.specs.List.{fold}
use Rattle.std.proofs.lemmas.Bool.{cases_Bool, cases_lt, cond-true, cond-false, and_parts, eqb-true, eqb-false, leb-true}
use Rattle.std.proofs.lemmas.List.{take-append-drop, length-drop}
use Rattle.std.proofs.lemmas.List.Elements.{All-head, All-tail}
use Rattle.std.proofs.lemmas.List.Sums.{fold-append}
use Rattle.body_framing.specs.Framing.{number_of, with_decimal, without_zeros}
use Rattle.body_framing.specs.FramingLaws.{IsDigit}
use Rattle.body_framing.proofs.WordLaws.{number_grows}

-- no zero stands first
abbrev pub IsPlain : List ℕ → Type 0
IsPlain [] = Unit {0}
IsPlain (byte ∷ bytes) = eqb byte 48 ≡ false

digit_within : (byte : ℕ) → IsDigit byte → (48 ≤ byte) × (byte ≤ 57)
digit_within byte is = let parts = and_parts _ _ is in (leb-true _ _ parts.0, leb-true _ _ parts.1)

-- ---- zeros

pub number-without_zeros : (word : List ℕ) → number_of (without_zeros word) ≡ number_of word
number-without_zeros [] = refl
number-without_zeros (byte ∷ bytes) =
    elim (cases_Bool (eqb byte 48)) [
      | inl is ↦
          let nothing : with_decimal 0 byte ≡ 0 = omega (arith, eqb-true byte 48 is) in
          ap number_of (cond-true _ _ _ is) ∙ number-without_zeros bytes ∙ sym (ap (λ (n : ℕ). fold with_decimal n bytes) nothing)
      | inr other ↦ ap number_of (cond-false _ _ _ other)
    ]

pub plain_without_zeros : (word : List ℕ) → All IsDigit word → All IsDigit (without_zeros word) × IsPlain (without_zeros word)
plain_without_zeros [] digits = (digits, tt)
plain_without_zeros (byte ∷ bytes) digits =
    elim (cases_Bool (eqb byte 48)) [
      | inl is ↦
          let same : without_zeros (byte ∷ bytes) ≡ without_zeros bytes = cond-true _ _ _ is in
          subst (λ (w : List ℕ). All IsDigit w × IsPlain w) (sym same) (plain_without_zeros bytes (All-tail IsDigit byte bytes digits))
      | inr other ↦
          let same : without_zeros (byte ∷ bytes) ≡ byte ∷ bytes = cond-false _ _ _ other in
          subst (λ (w : List ℕ). All IsDigit w × IsPlain w) (sym same) (digits, other)
    ]

-- ---- equal numbers

-- of equal lengths
same_end : (m n : ℕ) (a b : List ℕ) → length a ≡ length b → All IsDigit a → All IsDigit b → fold with_decimal m a ≡ fold with_decimal n b
    → (m ≡ n) × (a ≡ b)
same_end m n [] [] len digits digits' is = (is, refl)
same_end m n [] (y ∷ b) len digits digits' is = absurd (omega (arith, len))
same_end m n (x ∷ a) [] len digits digits' is = absurd (omega (arith, len))
same_end m n (x ∷ a) (y ∷ b) len digits digits' is =
    let rest = same_end (with_decimal m x) (with_decimal n y) a b (omega (arith, len)) (All-tail IsDigit x a digits) (All-tail IsDigit y b digits') is in
    let front : m * 10 + (x - 48) ≡ n * 10 + (y - 48) = rest.0 in
    let here = digit_within x (All-head IsDigit x a digits) in
    let there = digit_within y (All-head IsDigit y b digits') in
    let same : x ≡ y = omega (arith, front, here.0, here.1, there.0, there.1) in
    (omega (arith, front, here.0, here.1, there.0, there.1), (λ i. same i ∷ rest.1 i))

all_back : (front back : List ℕ) → All IsDigit (front ++ back) → All IsDigit back
all_back [] back digits = digits
all_back (x ∷ front) back digits = all_back front back (All-tail IsDigit x (front ++ back) digits)

-- with more digits, of which the first is no zero, the number is another one
more_digits : (a front back : List ℕ) (y : ℕ) → All IsDigit a → All IsDigit (y ∷ (front ++ back)) → eqb y 48 ≡ false → length a ≡ length back
    → number_of a ≡ number_of (y ∷ (front ++ back)) → ⊥
more_digits a front back y digits digits' plain len is =
    let first = digit_within y (All-head IsDigit y (front ++ back) digits') in
    let parts = fold-append with_decimal (with_decimal 0 y) front back in
    let same = same_end 0 (fold with_decimal (with_decimal 0 y) front) a back len digits (all_back front back (All-tail IsDigit y (front ++ back) digits')) (is ∙ parts) in
    let grown : 0 * 10 + (y - 48) ≤ fold with_decimal (with_decimal 0 y) front = number_grows (with_decimal 0 y) front in
    omega (arith, same.0, grown, first.0, eqb-false y 48 plain)

not_longer : (a b : List ℕ) → All IsDigit a → All IsDigit b → IsPlain b → number_of a ≡ number_of b → length a < length b → ⊥
not_longer a [] digits digits' plain is longer = omega (arith, longer)
not_longer a (y ∷ b) digits digits' plain is longer =
    let n = length b - length a in
    let parts : b ≡ take n b ++ drop n b = sym (take-append-drop n b) in
    more_digits a (take n b) (drop n b) y digits (subst (λ (w : List ℕ). All IsDigit (y ∷ w)) parts digits') plain
    (omega (arith, length-drop n b, longer)) (is ∙ ap (λ (w : List ℕ). number_of (y ∷ w)) parts)

pub same_digits : (a b : List ℕ) → All IsDigit a → All IsDigit b → IsPlain a → IsPlain b → number_of a ≡ number_of b → a ≡ b
same_digits a b digits digits' plain plain' is =
    elim (cases_lt (length a) (length b)) [
      | inl longer ↦ absurd (not_longer a b digits digits' plain' is longer)
      | inr le ↦
          elim (cases_lt (length b) (length a)) [
            | inl longer ↦ absurd (not_longer b a digits' digits plain (sym is) longer)
            | inr ge ↦ (same_end 0 0 a b (omega (arith, le, ge)) digits digits' is).1
          ]
    ]
