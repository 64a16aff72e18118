-- A number as its digits come.
use Rattle.std.proofs.Common.{◌≡◌, ℕ, ◌+◌, ◌*◌, ◌<◌, ◌≤◌, ◌^◌, ◌∙◌, List, refl, sym, ap, arith, length, take, get_or, [], ◌∷◌, drop, map, zero, suc, Option, Some, None, nat_lt, inl, inr, Bor, subst}
use Rattle.std.specs.Prelude.{if◌then◌else◌, MatchResult, Result, Ok, Err}
use Rattle.std.specs.Str.{is_utf8, IsUtf8}
use Rattle.std.proofs.lemmas.Str.{is_utf8-from_IsUtf8, IsUtf8-from_is_utf8}
use Rattle.std.proofs.lemmas.Bool.{cases_Bool, cond-true, cond-false}
use Rattle.std.specs.Char.{digit_value}
use Rattle.std.specs.Str.Parse.{digits_value}
use Rattle.std.proofs.lemmas.Bool.Decides.{nat_tests}
use Rattle.std.proofs.lemmas.Int.Digits.{digits_value_more}
use Rattle.std.proofs.lemmas.Str.Parse.{digits_value-take-le}
use Rattle.std.specs.Prelude.{All}
use Rattle.std.specs.Option.{option_copied}
use Rattle.std.specs.Result.{result_ok}
use Rattle.std.proofs.lemmas.List.{take_all}
use Rattle.std.proofs.lemmas.List.Elements.{All-more}
use Rattle.trace_text.specs.Reading.{number, utf8_of}

pub some_only : (n most more : ℕ) → (if nat_lt n most then Some n else None) ≡ Some more → (more ≡ n) × (n < most)
some_only n most more is = grind (arith, nat_tests)

pub none_only : (n most : ℕ) → (if nat_lt n most then Some n else None) ≡ None → most ≤ n
none_only n most is = grind (arith, nat_tests)

pub zero_past : (bits : ℕ) (token : List ℕ) → 2 ^ bits ≤ digits_value 10 token → number bits token ≡ 0
zero_past bits token h = grind (arith, nat_tests)

pub one_digit : (token : List ℕ) (i value more : ℕ) (d : ℕ) (r : Option ℕ) → i < length token → value ≡ digits_value 10 (take i token) → d ≡ get_or token i 0
    → r ≡ (if nat_lt (value * 10 + digit_value d) (2 ^ 128) then Some (value * 10 + digit_value d) else None) → r ≡ Some more
    → (more ≡ digits_value 10 (take (i + 1) token)) × (more < 2 ^ 128)
one_digit token i value more d r inside was is made some =
    let p = some_only (value * 10 + digit_value d) (2 ^ 128) more (sym made ∙ some) in
    let next : digits_value 10 (take (i + 1) token) ≡ digits_value 10 (take i token) * 10 + digit_value (get_or token i 0) = digits_value_more 10 token i inside in
    (p.0 ∙ (rw (was, is) refl) ∙ sym next, rw p.0 p.1)

pub too_long : (token : List ℕ) (i value : ℕ) (d : ℕ) (r : Option ℕ) → i < length token → value ≡ digits_value 10 (take i token) → d ≡ get_or token i 0
    → r ≡ (if nat_lt (value * 10 + digit_value d) (2 ^ 128) then Some (value * 10 + digit_value d) else None) → r ≡ None
    → 0 ≡ number 128 token
too_long token i value d r inside was is made none =
    let high : 2 ^ 128 ≤ value * 10 + digit_value d = none_only (value * 10 + digit_value d) (2 ^ 128) (sym made ∙ none) in
    let next : digits_value 10 (take (i + 1) token) ≡ digits_value 10 (take i token) * 10 + digit_value (get_or token i 0) = digits_value_more 10 token i inside in
    let same : digits_value 10 (take (i + 1) token) ≡ value * 10 + digit_value d = next ∙ (rw (was, is) refl) in
    sym (zero_past 128 token (omega (arith, high, same, digits_value-take-le 10 token (i + 1) (omega arith))))

pub ok-utf8_of : {E : Type 0} (bytes : List ℕ) (W : E → Type 0) (r : Result (Bor (List ℕ)) E)
    → MatchResult r (λ s. (s.now ≡ bytes) × IsUtf8 bytes) (λ e. (IsUtf8 bytes → ⊥) × W e) → option_copied (result_ok r) ≡ utf8_of bytes
ok-utf8_of bytes W (Ok s) told =
    ap (λ (l : List ℕ). Some l) told.0 ∙ sym (cond-true (is_utf8 bytes) (Some bytes) None (is_utf8-from_IsUtf8 bytes told.1))
ok-utf8_of bytes W (Err e) told =
    elim (cases_Bool (is_utf8 bytes)) [
      | inl text ↦ absurd (told.0 (IsUtf8-from_is_utf8 bytes text))
      | inr other ↦ sym (cond-false (is_utf8 bytes) (Some bytes) None other)
    ]

pub map_drop : {X Y : Type 0} (f : X → Y) (n : ℕ) (xs : List X) → map f (drop n xs) ≡ drop n (map f xs)
map_drop f zero xs = refl
map_drop f (suc n) [] = refl
map_drop f (suc n) (x ∷ xs) = map_drop f n xs

pub map_take : {X Y : Type 0} (f : X → Y) (n : ℕ) (xs : List X) → map f (take n xs) ≡ take n (map f xs)
map_take f zero xs = refl
map_take f (suc n) [] = refl
map_take f (suc n) (x ∷ xs) = ap (λ l. f x ∷ l) (map_take f n xs)

-- the elements up to an index, and the one there
pub all_more : {X : Type 0} (P : X → Type 0) (xs : List X) (i : ℕ) (x d : X) → i < length xs → x ≡ get_or xs i d → All P (take i xs) → P x → All P (take (i + 1) xs)
all_more P xs i x d inside is before here = All-more P xs i d inside before (subst P is here)

pub all_taken : {X : Type 0} (P : X → Type 0) (xs : List X) (n : ℕ) → length xs ≤ n → All P (take n xs) → All P xs
all_taken P xs n past all = subst (All P) (take_all n xs past) all
