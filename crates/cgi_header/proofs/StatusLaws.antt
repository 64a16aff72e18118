-- What the code needs of a value of Status.
use Rattle.std.proofs.Common.{◌≡◌, ℕ, Bool, true, false, ◌&&◌, List, take, drop, sym, ap, ◌∙◌, Option, Some, None, option_map, cond, inl, inr}
use Rattle.std.specs.Str.Parse.{digits_value}
use Rattle.std.proofs.lemmas.Bool.{cond-true, cond-false, and_from, and_left, and_right}
use Rattle.httparse.specs.Grammar.{trim_ows}
use Rattle.host_base.proofs.SplitLaws.{chosen}
use Rattle.cgi_header.specs.declared.header.Given.{Given}
use Rattle.cgi_header.specs.ScriptHeader.{are_three_digits, is_final, is_set_off, status_of}

-- the number of three digits at the front
abbrev digits_of : List ℕ → Option ℕ
digits_of value = cond (are_three_digits (take 3 value)) (Some (digits_value 10 (take 3 value))) None

abbrev pub status_at : List ℕ → ℕ → Given
status_at value code = record { code = code; phrase = trim_ows (drop 3 value) }

pub some_status : (value : List ℕ) (code : ℕ) → Some code ≡ digits_of value → is_final code ≡ true → is_set_off (drop 3 value) ≡ true
    → status_of value ≡ Some (status_at value code)
unfolding status_of
some_status value code is final set_off =
    elim (chosen (are_three_digits (take 3 value)) _ _ _ (sym is)) [
      | inl found ↦
          let same : digits_value 10 (take 3 value) ≡ code = cc found.1 in
          cond-true _ _ _ (and_from _ _ (and_from _ _ found.0 (ap is_final same ∙ final)) set_off)
          ∙ ap (λ (n : ℕ). Some (status_at value n)) same
      | inr none ↦ absurd (cc none.1)
    ]

pub no_digits : (value : List ℕ) → None ≡ digits_of value → status_of value ≡ None
unfolding status_of
no_digits value is =
    elim (chosen (are_three_digits (take 3 value)) _ _ _ (sym is)) [
      | inl found ↦ absurd (cc found.1)
      | inr none ↦ cond-false _ _ _ (and_left _ _ (and_left _ _ none.0))
    ]

pub not_final : (value : List ℕ) (code : ℕ) → Some code ≡ digits_of value → is_final code ≡ false → status_of value ≡ None
unfolding status_of
not_final value code is other =
    elim (chosen (are_three_digits (take 3 value)) _ _ _ (sym is)) [
      | inl found ↦
          let same : digits_value 10 (take 3 value) ≡ code = cc found.1 in
          cond-false _ _ _ (and_left _ _ (and_right _ _ (ap is_final same ∙ other)))
      | inr none ↦ absurd (cc none.1)
    ]

pub not_set_off : (value : List ℕ) → is_set_off (drop 3 value) ≡ false → status_of value ≡ None
unfolding status_of
not_set_off value other = cond-false _ _ _ (and_right _ _ other)

-- the code of a status is that of its value
pub status_again : (value : List ℕ) (code : ℕ) → Some code ≡ option_map (λ (given : Given). given.code) (status_of value)
    → status_of value ≡ Some (status_at value code)
unfolding status_of
status_again value code is =
    let test = are_three_digits (take 3 value) && is_final (digits_value 10 (take 3 value)) && is_set_off (drop 3 value) in
    by_test test (digits_value 10 (take 3 value)) is
  where
    by_test : (test : Bool) (n : ℕ) → Some code ≡ option_map (λ (given : Given). given.code) (cond test (Some (status_at value n)) None)
        → cond test (Some (status_at value n)) None ≡ Some (status_at value code)
    by_test true n is = ap (λ (m : ℕ). Some (status_at value m)) (cc is)
    by_test false n is = absurd (cc is)
