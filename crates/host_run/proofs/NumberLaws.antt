-- A number of at most 19 digits is read whole.
use Rattle.std.proofs.Common.{◌≡◌, ℕ, ◌≤◌, ◌<◌, ◌&&◌, Bool, true, false, List, Ok, length, refl, rules, arith}
use Rattle.std.specs.Prelude.{Result, nat_le, nat_lt}
use Rattle.std.specs.Char.{is_ascii_digit}
use Rattle.std.specs.List.{list_all}
use Rattle.std.specs.Str.Parse.{ParsesUnsigned, digits_value}
use Rattle.std.proofs.lemmas.Str.Parse.{IsNumeralModel, digits_value_short, numerals_by_value, parse_gives}
use Rattle.host_run.specs.Words.{is_number}

own : IsNumeralModel (λ ds. list_all is_ascii_digit ds ≡ true) (digits_value 10)
own = numerals_by_value (λ ds. list_all is_ascii_digit ds ≡ true) (search rules)

left : (a b : Bool) → a && b ≡ true → a ≡ true
left true b e = refl
left false b e = absurd (cc)

right : (a b : Bool) → a && b ≡ true → b ≡ true
right true b e = e
right false b e = absurd (cc)

pub number_read : {E : Type 0} (bs : List ℕ) (r : Result ℕ E) → ParsesUnsigned 64 10 bs r → is_number bs ≡ true → r ≡ Ok (digits_value 10 bs)
number_read bs r read is =
    let some = nat_lt 0 (length bs) in
    let few = nat_le (length bs) 19 in
    let digits = list_all is_ascii_digit bs in
    let both : some && few ≡ true = left (some && few) digits is in
    let is_some : 0 < length bs = grind (arith, left some few both) in
    let is_few : length bs ≤ 19 = grind (arith, right some few both) in
    let are_digits : digits ≡ true = right (some && few) digits is in
    parse_gives own 64 bs r read are_digits is_some (omega (arith, digits_value_short own bs 19 are_digits is_few))
