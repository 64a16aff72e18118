-- Why a program of a number names its folder.
use Rattle.std.proofs.Common.{◌≡◌, ℕ, zero, suc, ◌+◌, ◌-◌, ◌<◌, ◌≤◌, ◌^◌, Bool, true, false, ◌&&◌, ◌||◌, ◌==◌, not, cond, List, [], ◌∷◌, ◌++◌, length, get_or, Option, Some, None, option_and_then, slice_get, slice_index, refl, sym, ap, ◌∙◌, arith, nat_lt, nat_le, codes}
use Rattle.std.specs.Char.{is_ascii_digit, digit_value}
use Rattle.std.specs.Fmt.{decimal}
use Rattle.std.specs.List.{list_all}
use Rattle.std.specs.Str.Parse.{AllDigits, digits_value}
use Rattle.std.proofs.lemmas.Bool.{lt-ltb, le-leb, and_from, or_left, or_right, cond-true, ne_eqb}
use Rattle.std.proofs.lemmas.Fmt.{decimal_is_IsNumeral, decimal_nonempty, first_decimal, length-decimal-le, decimal_digit}
use Rattle.std.proofs.lemmas.Str.Parse.{digit_from_value}
use Rattle.host_base.specs.declared.site.DocRoot.{DocRoot}
use Rattle.document_output.specs.Folders.{documents_program, folder_number, folder_of, has_no_lead, spelled_number}
use Rattle.document_output.specs.Numbers.{is_number, number_in}
use Rattle.document_output.specs.Rules.{FoldersAreNumbered}

digit_of : (c : ℕ) → digit_value c < 10 → is_ascii_digit c ≡ true
digit_of c small = let r = digit_from_value c small in and_from (nat_le 48 c) (nat_le c 57) (le-leb 48 c r.0) (le-leb c 57 r.1)

digits_all : (ds : List ℕ) → AllDigits 10 ds → list_all is_ascii_digit ds ≡ true
digits_all [] h = refl
digits_all (c ∷ cs) h = and_from (is_ascii_digit c) (list_all is_ascii_digit cs) (digit_of c h.0) (digits_all cs h.1)

decimal_is_number : (n : ℕ) → n < 10 ^ 18 → is_number (decimal n) ≡ true
decimal_is_number n small =
    let word : n < 2 ^ 64 = omega arith in
    and_from (nat_lt 0 (length (decimal n)) && nat_le (length (decimal n)) 18) (list_all is_ascii_digit (decimal n))
    (and_from (nat_lt 0 (length (decimal n))) (nat_le (length (decimal n)) 18) (lt-ltb 0 (length (decimal n)) (decimal_nonempty n word))
    (le-leb (length (decimal n)) 18 (length-decimal-le 18 n (omega arith) small word)))
    (digits_all (decimal n) (decimal_is_IsNumeral n word).0.1)

no_lead : (n : ℕ) → n < 10 ^ 18 → has_no_lead (decimal n) ≡ true
no_lead zero small = or_left (nat_le (length (decimal 0)) 1) _ (ap (λ (ds : List ℕ). nat_le (length ds) 1) (decimal_digit 0 (omega arith)))
no_lead (suc n) small =
    let first = first_decimal (suc n) (omega arith) (omega arith) in
    or_right (nat_le (length (decimal (suc n))) 1) _ (ap not (ne_eqb (get_or (decimal (suc n)) 0 0) 48 (λ is. omega arith)))

spelled : (n : ℕ) → n < 10 ^ 18 → spelled_number (decimal n) ≡ Some n
spelled n small =
    let word : n < 2 ^ 64 = omega arith in
    cond-true (has_no_lead (decimal n)) _ _ (no_lead n small) ∙ cond-true (is_number (decimal n)) _ _ (decimal_is_number n small)
    ∙ ap Some (decimal_is_IsNumeral n word).1

number_of_program : (n : ℕ) → n < 10 ^ 18 → folder_number (documents_program n) ≡ Some n
number_of_program n small = spelled n small

pub folders_are_numbered : FoldersAreNumbered
folders_are_numbered docs n small = ap (option_and_then (slice_get docs)) (number_of_program n small)
