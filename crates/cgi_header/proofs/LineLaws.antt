-- What the code needs of one line.
use Rattle.std.proofs.Common.{◌≡◌, ℕ, ◌+◌, ◌<◌, ◌≤◌, Bool, true, false, ◌&&◌, List, [], ◌∷◌, length, take, drop, refl, sym, ap, ◌∙◌, arith, Some, None, cond, inl, inr}
use Rattle.std.specs.List.{position, position_or_len, list_all, list_any}
use Rattle.std.proofs.lemmas.Bool.{cond-true, cond-false, cases_Bool, cases_lt, lt-ltb, le-ltb, and_from}
use Rattle.httparse.specs.Grammar.{is_token, is_value_byte, trim_ows}
use Rattle.head_reader.specs.RequestHead.{field_of, is_colon}

-- ---- a field line by its first colon

any_from_place : (p : ℕ → Bool) (xs : List ℕ) → position_or_len p xs < length xs → list_any p xs ≡ true
any_from_place p [] h = absurd (omega arith)
any_from_place p (x ∷ xs) h =
    elim (cases_Bool (p x)) [
      | inl here ↦ rw here
      | inr other ↦ let later = rw other at h in rw other (any_from_place p xs (omega arith))
    ]

none_from_place : (p : ℕ → Bool) (xs : List ℕ) → length xs ≤ position_or_len p xs → list_any p xs ≡ false
none_from_place p [] h = refl
none_from_place p (x ∷ xs) h =
    elim (cases_Bool (p x)) [
      | inl here ↦ let none = rw here at h in absurd (omega arith)
      | inr other ↦ let later = rw other at h in rw other (none_from_place p xs (omega arith))
    ]

pub place_some : {X : Type 0} (p : X → Bool) (xs : List X) (at : ℕ) → position p xs ≡ Some at → (position_or_len p xs < length xs) × (position_or_len p xs ≡ at)
place_some p xs at e =
    elim (cases_lt (position_or_len p xs) (length xs)) [
      | inl within ↦ let is : Some (position_or_len p xs) ≡ Some at = sym (cond-true _ _ _ (lt-ltb _ _ within)) ∙ e in (within, cc)
      | inr past ↦ let is : None ≡ Some at = sym (cond-false _ _ _ (le-ltb _ _ past)) ∙ e in absurd (cc)
    ]

pub place_none : {X : Type 0} (p : X → Bool) (xs : List X) → position p xs ≡ None → length xs ≤ position_or_len p xs
place_none p xs e =
    elim (cases_lt (position_or_len p xs) (length xs)) [
      | inl within ↦ let is : Some (position_or_len p xs) ≡ None = sym (cond-true _ _ _ (lt-ltb _ _ within)) ∙ e in absurd (cc)
      | inr past ↦ past
    ]

pub no_field : (line : List ℕ) → position is_colon line ≡ None → None ≡ field_of line
unfolding field_of
no_field line e = rw (none_from_place is_colon line (place_none is_colon line e)) refl

field_is : (line : List ℕ) (at : ℕ) → position is_colon line ≡ Some at
    → field_of line ≡ cond (is_token (take at line) && list_all is_value_byte (drop (at + 1) line))
    (Some (record { name = take at line; value = trim_ows (drop (at + 1) line) })) None
unfolding field_of
field_is line at e =
    let place = place_some is_colon line at e in
    rw (any_from_place is_colon line place.0, place.1) refl

pub no_name : (line : List ℕ) (at : ℕ) → position is_colon line ≡ Some at → is_token (take at line) ≡ false → None ≡ field_of line
no_name line at e bad = rw (field_is line at e, bad) refl

pub no_value : (line rest : List ℕ) (at : ℕ) → position is_colon line ≡ Some at → rest ≡ drop (at + 1) line
    → list_all is_value_byte rest ≡ false → None ≡ field_of line
no_value line rest at e is bad' =
    let bad = ap (list_all is_value_byte) (sym is) ∙ bad' in
    elim (cases_Bool (is_token (take at line))) [
      | inl word ↦ rw (field_is line at e, word, bad) refl
      | inr other ↦ no_name line at e other
    ]

pub some_field : (line rest : List ℕ) (at : ℕ) → position is_colon line ≡ Some at → rest ≡ drop (at + 1) line
    → is_token (take at line) ≡ true → list_all is_value_byte rest ≡ true
    → field_of line ≡ Some (record { name = take at line; value = trim_ows rest })
some_field line rest at e is word value' =
    let value = ap (list_all is_value_byte) (sym is) ∙ value' in
    field_is line at e ∙ cond-true _ _ _ (and_from _ _ word value)
    ∙ ap (λ (v : List ℕ). Some (record { name = take at line; value = trim_ows v })) (sym is)
