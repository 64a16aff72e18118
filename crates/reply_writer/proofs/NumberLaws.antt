-- The digits that `decimal` writes.
use Rattle.std.proofs.Common.{◌≡◌, ℕ, zero, suc, ◌+◌, ◌/◌, ◌%◌, ◌<◌, ◌≤◌, ◌^◌, Bool, true, false, List, [], ◌∷◌, ◌++◌, length, refl, arith, decimal}
use Rattle.std.specs.Prelude.{◌==◌}
use Rattle.std.specs.Char.{is_ascii_digit}
use Rattle.std.specs.Fmt.{digits, digits_onto, digit_glyph}
use Rattle.std.specs.Str.Parse.{digits_value}
use Rattle.std.proofs.lemmas.Bool.Decides.{nat_tests}
use Rattle.std.proofs.lemmas.Fmt.{decimal_digit, decimal_step, decimal_is_IsNumeral}
use Rattle.std.proofs.lemmas.List.Elements.{All-cons, All-nil}
use Rattle.httparse.specs.Grammar.{AllPass}

glyph_is_digit : (d : ℕ) → d < 10 → is_ascii_digit (digit_glyph false d) ≡ true
glyph_is_digit d small = grind (arith, nat_tests)

last_is_digit : (n : ℕ) → is_ascii_digit (digit_glyph false (n % 10)) ≡ true
last_is_digit n = glyph_is_digit (n % 10) (omega arith)

digits_onto_digits : (k n : ℕ) (after : List ℕ) → AllPass is_ascii_digit after
    → AllPass is_ascii_digit (digits_onto k 10 false n after)
digits_onto_digits zero n after all = all
digits_onto_digits (suc k) n after all = by_test (digits_onto_digits k (n / 10) (digit_glyph false (n % 10) ∷ after) more) (n / 10 == 0) refl
  where
    more : AllPass is_ascii_digit (digit_glyph false (n % 10) ∷ after)
    more = All-cons (λ b. is_ascii_digit b ≡ true) _ after (last_is_digit n) all

    by_test : AllPass is_ascii_digit (digits_onto k 10 false (n / 10) (digit_glyph false (n % 10) ∷ after))
        → (t : Bool) → (n / 10 == 0) ≡ t → AllPass is_ascii_digit (digits_onto (suc k) 10 false n after)
    by_test later true e = rw e more
    by_test later false e = rw e later

-- each byte of a number is a digit
pub decimal_digits : (n : ℕ) → AllPass is_ascii_digit (decimal n)
unfolding digits
decimal_digits n = digits_onto_digits 64 n [] (All-nil (λ b. is_ascii_digit b ≡ true))

-- a number from 100 to 999 has three digits
pub three_digits : (n : ℕ) → 100 ≤ n → n ≤ 999 → length (decimal n) ≡ 3
three_digits n least greatest =
    let tens : decimal n ≡ decimal (n / 10) ++ (48 + n % 10) ∷ [] = decimal_step n (omega arith) (omega arith) in
    let ones : decimal (n / 10) ≡ decimal (n / 10 / 10) ++ (48 + n / 10 % 10) ∷ [] =
    decimal_step (n / 10) (omega arith) (omega arith) in
    let first : decimal (n / 10 / 10) ≡ (48 + n / 10 / 10) ∷ [] = decimal_digit (n / 10 / 10) (omega arith) in
    rw (tens, ones, first)

-- the digits of a number are read as that number
pub digits_value-decimal : (n : ℕ) → n < 2 ^ 64 → digits_value 10 (decimal n) ≡ n
digits_value-decimal n fits = (decimal_is_IsNumeral n fits).1
