-- Decoding keeps the segments of a path that has no escape for a slash.
use Rattle.std.proofs.Common.{◌≡◌, ◌≢◌, ℕ, ◌+◌, ◌*◌, ◌-◌, ◌<◌, ◌≤◌, Bool, true, false, not, cond, ◌&&◌, ◌||◌, ◌⊎◌, List, [], ◌∷◌, map, refl, sym, ap, ◌∙◌, subst, arith, eqb, leb, inl, inr}
use Rattle.std.specs.List.{slice_split, onto_first}
use Rattle.std.specs.Char.{digit_value, is_ascii_hexdigit, is_digit}
use Rattle.std.proofs.lemmas.Bool.{cond-true, cases_Bool, and_parts, and_from, eqb-true, ne_eqb, eq-eqb, leb-true, lt-ltb, false≢true}
use Rattle.std.proofs.lemmas.Bool.Decides.{nat_tests}
use Rattle.std.proofs.lemmas.List.Splits.{slice_split-cons_yes, slice_split-cons_no}
use Rattle.percent_encoding.specs.Percent.{percent_decode}
use Rattle.script_map.specs.DotSegments.{is_slash}
use Rattle.script_map.specs.Escapes.{is_percent, has_whole_escapes, has_hidden_escape, begins_with_pair, is_hex_pair, is_hidden_pair}
use Rattle.script_map.specs.MappingRules.{DecodesSegments}
use Rattle.script_map.proofs.ListLaws.{neither}
use Rattle.script_map.proofs.PathLaws.{parts_some}

-- ---- hex digits

-- a hex digit and its value
pub record IsHexDigit (c : ℕ) : Type 0 where
  pub small : digit_value c < 16
  pub two : digit_value c ≡ 2 → c ≡ 50
  pub fifteen : digit_value c ≡ 15 → (c ≡ 70) ⊎ (c ≡ 102)
  pub no_slash : c ≢ 47

digit_below : (c : ℕ) → 48 ≤ c → c ≤ 57 → digit_value c ≡ c - 48
digit_below c low high = grind (arith, nat_tests)

upper_below : (c : ℕ) → 65 ≤ c → c ≤ 70 → digit_value c ≡ c - 55
upper_below c low high = grind (arith, nat_tests)

lower_below : (c : ℕ) → 97 ≤ c → c ≤ 102 → digit_value c ≡ c - 87
lower_below c low high = grind (arith, nat_tests)

or_cases : (a b : Bool) → (a || b) ≡ true → (a ≡ true) ⊎ (b ≡ true)
or_cases true b e = inl refl
or_cases false b e = inr e

hex_digit : (c : ℕ) → is_ascii_hexdigit c ≡ true → IsHexDigit c
hex_digit c is =
    elim (or_cases (leb 48 c && leb c 57 || (leb 65 c && leb c 70)) (leb 97 c && leb c 102) is) [
      | inl first ↦
          elim (or_cases (leb 48 c && leb c 57) (leb 65 c && leb c 70) first) [
            | inl digit ↦
                let parts = and_parts (leb 48 c) (leb c 57) digit in
                let low = leb-true 48 c parts.0 in
                let high = leb-true c 57 parts.1 in
                let value = digit_below c low high in
                record { small = omega arith; two = λ is. omega arith; fifteen = λ is. absurd (omega arith); no_slash = λ is. omega arith }
            | inr upper ↦
                let parts = and_parts (leb 65 c) (leb c 70) upper in
                let low = leb-true 65 c parts.0 in
                let high = leb-true c 70 parts.1 in
                let value = upper_below c low high in
                record { small = omega arith; two = λ is. absurd (omega arith); fifteen = λ is. inl (omega arith); no_slash = λ is. omega arith }
          ]
      | inr lower ↦
          let parts = and_parts (leb 97 c) (leb c 102) lower in
          let low = leb-true 97 c parts.0 in
          let high = leb-true c 102 parts.1 in
          let value = lower_below c low high in
          record { small = omega arith; two = λ is. absurd (omega arith); fifteen = λ is. inr (omega arith); no_slash = λ is. omega arith }
    ]

-- an escape that is not hidden stands for no slash
byte_no_slash : (high low : ℕ) → IsHexDigit high → IsHexDigit low → is_hidden_pair high low ≡ false → is_slash (16 * digit_value high + digit_value low) ≡ false
byte_no_slash high low h l shown = ne_eqb _ 47 λ is.
    let two : digit_value high ≡ 2 = omega (arith, h.small, l.small, is) in
    let fifteen : digit_value low ≡ 15 = omega (arith, h.small, l.small, is) in
    let parts = neither (eqb high 50 && (eqb low 70 || eqb low 102)) (eqb high 48 && eqb low 48) shown in
    let here : (eqb high 50 && (eqb low 70 || eqb low 102)) ≡ true =
    and_from _ _ (eq-eqb high 50 (h.two two)) (either low (l.fifteen fifteen)) in
    false≢true (sym parts.0 ∙ here)
  where
    either : (low : ℕ) → (low ≡ 70) ⊎ (low ≡ 102) → (eqb low 70 || eqb low 102) ≡ true
    either low (inl is) = ap (λ (b : Bool). b || eqb low 102) (eq-eqb low 70 is)
    either low (inr is) = grind (arith, nat_tests)

-- ---- one byte

-- a byte that is no percent sign stays
plain_first : (b : ℕ) (rest : List ℕ) → is_percent b ≡ false → percent_decode (b ∷ rest) ≡ b ∷ percent_decode rest
unfolding percent_decode
plain_first b [] plain = refl
plain_first b (c ∷ []) plain = refl
plain_first b (c ∷ d ∷ rest) plain =
    ap (λ (t : Bool). cond (t && is_digit c 16 && is_digit d 16) ((16 * digit_value c + digit_value d) ∷ percent_decode rest) (b ∷ percent_decode (c ∷ d ∷ rest))) plain

abbrev pub KeepsSegments : List ℕ → Type 0
KeepsSegments path = slice_split is_slash (percent_decode path) ≡ map percent_decode (slice_split is_slash path)

nothing : ◌≡◌ {A = List ℕ} [] (percent_decode [])
unfolding percent_decode
nothing = refl

one_byte : (b : ℕ) (rest : List ℕ) → is_percent b ≡ false → KeepsSegments rest → KeepsSegments (b ∷ rest)
one_byte b rest plain later =
    let parts = parts_some rest in
    ap (slice_split is_slash) (plain_first b rest plain)
    ∙ elim (cases_Bool (is_slash b)) [
      | inl slash ↦
          slice_split-cons_yes is_slash b (percent_decode rest) slash
          ∙ ap (λ (ps : List (List ℕ)). [] ∷ ps) later
          ∙ ap (λ (l : List ℕ). l ∷ map percent_decode (slice_split is_slash rest)) nothing
          ∙ ap (map percent_decode) (sym (slice_split-cons_yes is_slash b rest slash))
      | inr other ↦
          slice_split-cons_no is_slash b (percent_decode rest) other
          ∙ ap (onto_first b) (later ∙ ap (map percent_decode) parts.2)
          ∙ ap (λ (l : List ℕ). l ∷ map percent_decode parts.1) (sym (plain_first b parts.0 plain))
          ∙ ap (map percent_decode) (sym (slice_split-cons_no is_slash b rest other ∙ ap (onto_first b) parts.2))
    ]

-- ---- an escape

escape_first : (high low : ℕ) (rest : List ℕ) → IsHexDigit high → IsHexDigit low
    → percent_decode (37 ∷ high ∷ low ∷ rest) ≡ (16 * digit_value high + digit_value low) ∷ percent_decode rest
unfolding percent_decode
escape_first high low rest h l =
    cond-true (is_digit high 16 && is_digit low 16) _ _ (and_from _ _ (lt-ltb (digit_value high) 16 h.small) (lt-ltb (digit_value low) 16 l.small))

escape_split : (high low : ℕ) (rest : List ℕ) → IsHexDigit high → IsHexDigit low
    → slice_split is_slash (37 ∷ high ∷ low ∷ rest) ≡ onto_first 37 (onto_first high (onto_first low (slice_split is_slash rest)))
escape_split high low rest h l =
    ap (onto_first 37) (slice_split-cons_no is_slash high (low ∷ rest) (ne_eqb high 47 h.no_slash)
    ∙ ap (onto_first high) (slice_split-cons_no is_slash low rest (ne_eqb low 47 l.no_slash)))

one_escape : (high low : ℕ) (rest : List ℕ) → IsHexDigit high → IsHexDigit low → is_hidden_pair high low ≡ false → KeepsSegments rest
    → KeepsSegments (37 ∷ high ∷ low ∷ rest)
one_escape high low rest h l shown later =
    let parts = parts_some rest in
    let byte = 16 * digit_value high + digit_value low in
    ap (slice_split is_slash) (escape_first high low rest h l)
    ∙ slice_split-cons_no is_slash byte (percent_decode rest) (byte_no_slash high low h l shown)
    ∙ ap (onto_first byte) (later ∙ ap (map percent_decode) parts.2)
    ∙ ap (λ (first : List ℕ). first ∷ map percent_decode parts.1) (sym (escape_first high low parts.0 h l))
    ∙ ap (map percent_decode) (sym (escape_split high low rest h l ∙ ap (λ (ps : List (List ℕ)). onto_first 37 (onto_first high (onto_first low ps))) parts.2))

at_percent : (b : ℕ) (rest : List ℕ) (t : Bool) → is_percent b ≡ t → (not t || begins_with_pair is_hex_pair rest) ≡ true
    → (t && begins_with_pair is_hidden_pair rest) ≡ false → (t ≡ false) ⊎ ((b ≡ 37) × (begins_with_pair is_hex_pair rest ≡ true) × (begins_with_pair is_hidden_pair rest ≡ false))
at_percent b rest true here whole shown = inr (eqb-true b 37 here, whole, shown)
at_percent b rest false other whole shown = inl refl

first_whole : (b : ℕ) (rest : List ℕ) → has_whole_escapes (b ∷ rest) ≡ true → ((not (is_percent b) || begins_with_pair is_hex_pair rest) ≡ true) × (has_whole_escapes rest ≡ true)
first_whole b rest whole = and_parts (not (is_percent b) || begins_with_pair is_hex_pair rest) (has_whole_escapes rest) whole

first_shown : (b : ℕ) (rest : List ℕ) → has_hidden_escape (b ∷ rest) ≡ false → ((is_percent b && begins_with_pair is_hidden_pair rest) ≡ false) × (has_hidden_escape rest ≡ false)
first_shown b rest shown = neither (is_percent b && begins_with_pair is_hidden_pair rest) (has_hidden_escape rest) shown

at_first : (b : ℕ) (rest : List ℕ) → has_whole_escapes (b ∷ rest) ≡ true → has_hidden_escape (b ∷ rest) ≡ false
    → (is_percent b ≡ false) ⊎ ((b ≡ 37) × (begins_with_pair is_hex_pair rest ≡ true) × (begins_with_pair is_hidden_pair rest ≡ false))
at_first b rest whole shown = at_percent b rest (is_percent b) refl (first_whole b rest whole).0 (first_shown b rest shown).0

keeps_empty : KeepsSegments []
unfolding percent_decode
keeps_empty = refl

pub decodes_segments : DecodesSegments
decodes_segments [] whole shown = keeps_empty
decodes_segments (b ∷ []) whole shown =
    elim (at_first b [] whole shown) [
      | inl plain ↦ one_byte b [] plain (decodes_segments [] refl refl)
      | inr escape ↦ absurd (false≢true escape.1)
    ]
decodes_segments (b ∷ c ∷ []) whole shown =
    elim (at_first b (c ∷ []) whole shown) [
      | inl plain ↦ one_byte b (c ∷ []) plain (decodes_segments (c ∷ []) (first_whole b (c ∷ []) whole).1 (first_shown b (c ∷ []) shown).1)
      | inr escape ↦ absurd (false≢true escape.1)
    ]
decodes_segments (b ∷ high ∷ low ∷ rest) whole shown =
    let whole_1 = (first_whole b (high ∷ low ∷ rest) whole).1 in
    let shown_1 = (first_shown b (high ∷ low ∷ rest) shown).1 in
    let whole_2 = (first_whole high (low ∷ rest) whole_1).1 in
    let shown_2 = (first_shown high (low ∷ rest) shown_1).1 in
    let later = decodes_segments rest (first_whole low rest whole_2).1 (first_shown low rest shown_2).1 in
    elim (at_first b (high ∷ low ∷ rest) whole shown) [
      | inl plain ↦ one_byte b (high ∷ low ∷ rest) plain (decodes_segments (high ∷ low ∷ rest) whole_1 shown_1)
      | inr escape ↦
          let digits = and_parts (is_ascii_hexdigit high) (is_ascii_hexdigit low) escape.1 in
          subst (λ (x : ℕ). KeepsSegments (x ∷ high ∷ low ∷ rest)) (sym escape.0)
          (one_escape high low rest (hex_digit high digits.0) (hex_digit low digits.1) escape.2 later)
    ]
