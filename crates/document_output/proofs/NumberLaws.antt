-- Digits of a number, and what they write.
use Rattle.std.proofs.Common.{nat_lt, nat_le, sym, ◌≡◌, ℕ, zero, suc, ◌+◌, ◌-◌, ◌*◌, ◌<◌, ◌≤◌, ◌^◌, ◌&&◌, Bool, true, List, [], ◌∷◌, length, take, get_or, arith, ltb-true, refl, ap, ◌∙◌}
use Rattle.std.specs.Char.{is_ascii_digit, digit_value}
use Rattle.std.specs.List.{list_all}
use Rattle.std.specs.Str.Parse.{AllDigits, digits_value}
use Rattle.std.proofs.lemmas.Bool.{and_parts, leb-true}
use Rattle.std.proofs.lemmas.Grind.{common_steps}
use Rattle.std.proofs.lemmas.Str.{digit_value_digit}
use Rattle.std.proofs.lemmas.Str.Parse.{digits_value-take-le, digits_value_short, numerals_by_value, tells_digits}
use Rattle.std.proofs.lemmas.Int.Digits.{digits_value_more}
use Rattle.document_output.specs.Numbers.{is_number}

pub digit_range : (c : ℕ) → is_ascii_digit c ≡ true → (48 ≤ c) × (c ≤ 57)
digit_range c h = search (arith, common_steps)

pub digit_small : (c : ℕ) → is_ascii_digit c ≡ true → digit_value c + 48 ≡ c
digit_small c h = digit_value_digit c (digit_range c h)

pub all_digits : (ds : List ℕ) → list_all is_ascii_digit ds ≡ true → AllDigits 10 ds
all_digits [] h = tt
all_digits (c ∷ cs) h =
    let p = and_parts (is_ascii_digit c) (list_all is_ascii_digit cs) h in
    let r = digit_range c p.0 in
    let s = digit_small c p.0 in
    (omega arith, all_digits cs p.1)

pub digit_at : (ds : List ℕ) (i : ℕ) → list_all is_ascii_digit ds ≡ true → i < length ds → is_ascii_digit (get_or ds i 0) ≡ true
digit_at [] i h lt = absurd (omega arith)
digit_at (c ∷ cs) zero h lt = (and_parts (is_ascii_digit c) (list_all is_ascii_digit cs) h).0
digit_at (c ∷ cs) (suc i) h lt = digit_at cs i (and_parts (is_ascii_digit c) (list_all is_ascii_digit cs) h).1 (omega arith)

number_parts : (ds : List ℕ) → is_number ds ≡ true → (length ds ≤ 18) × (list_all is_ascii_digit ds ≡ true)
number_parts ds h =
    let p = and_parts (nat_lt 0 (length ds) && nat_le (length ds) 18) (list_all is_ascii_digit ds) h in
    let q = and_parts (nat_lt 0 (length ds)) (nat_le (length ds) 18) p.0 in
    (leb-true _ _ q.1, p.1)

pub number_digits : (ds : List ℕ) → is_number ds ≡ true → list_all is_ascii_digit ds ≡ true
number_digits ds h = (number_parts ds h).1

pub number_small : (ds : List ℕ) → is_number ds ≡ true → digits_value 10 ds < 10 ^ 18
number_small ds h =
    let p = number_parts ds h in
    digits_value_short (numerals_by_value (AllDigits 10) tells_digits) ds 18 (all_digits ds p.1) p.0

-- one more digit: the number so far, and that it is small
pub record NextDigit (ds : List ℕ) (i value : ℕ) : Type 0 where
  pub digit : 48 ≤ get_or ds i 0
  pub more : value * 10 + (get_or ds i 0 - 48) ≡ digits_value 10 (take (i + 1) ds)
  pub small : value * 10 + (get_or ds i 0 - 48) < 10 ^ 18

pub next_digit : (ds : List ℕ) (i value : ℕ) → is_number ds ≡ true → i < length ds → value ≡ digits_value 10 (take i ds) → NextDigit ds i value
next_digit ds i value h within is =
    let d = digit_at ds i (number_digits ds h) within in
    let r = digit_range (get_or ds i 0) d in
    let s : digit_value (get_or ds i 0) ≡ get_or ds i 0 - 48 = omega (arith, digit_small (get_or ds i 0) d) in
    let more : value * 10 + (get_or ds i 0 - 48) ≡ digits_value 10 (take (i + 1) ds) =
    cc (is, s, digits_value_more 10 ds i within) in
    record {
      digit = r.0;
      more = more;
      small = omega (arith, more, digits_value-take-le 10 ds (i + 1) (omega arith), number_small ds h);
    }
