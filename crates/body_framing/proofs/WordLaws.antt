-- The words and values of a field, line by line.
use Rattle.std.proofs.Common.{◌≡◌, ℕ, zero, suc, ◌+◌, ◌<◌, ◌≤◌, ◌^◌, Bool, true, false, cond, List, [], ◌∷◌, length, map, filter, drop, get_or, min, refl, sym, ap, ◌∙◌, arith, length-append, Option, Some, None, inl, inr, ltb, eqb, zero-add, Ok, Err}
use Rattle.std.specs.Prelude.{◌&&◌, codes}
use Rattle.std.specs.List.{list_any, list_all, slice_split, find, flat_map, fold}
use Rattle.std.proofs.lemmas.List.{at_drop_more, at_drop_all}
use Rattle.std.proofs.lemmas.Bool.{cond-true, cond-false, lt-ltb, le-ltb, ltb-false, ne_eqb}
use Rattle.std.proofs.lemmas.Slice.Eq.{bytes_eq-Decides}
use Rattle.httparse.specs.Grammar.{trim_ows}
use Rattle.host_base.specs.Ascii.{comma_words, is_comma, is_filled}
use Rattle.host_base.specs.FieldLists.{field_words, is_named, value_of, values_named}
use Rattle.host_base.specs.declared.fields.Field.{Field}
use Rattle.host_base.specs.declared.limits.Limits.{Limits}
use Rattle.host_base.specs.declared.request.Head.{Head}
use Rattle.host_base.specs.declared.cause.Cause.TheVariants.{BadFraming, CodingUnknown}
use Rattle.host_base.specs.declared.request.Framing.TheVariants.{Empty, Chunked}
use Rattle.host_base.proofs.SplitLaws.{chosen}
use Rattle.host_base.proofs.AnyLaws.{list_any-map, list_any-flat_map}
use Rattle.body_framing.specs.Framing.{framing_of, has_field, is_codings_refused, framing_by_codings, framing_by_digits, framing_by_lengths, framing_by_number, is_length, is_other_coding, is_other_word, length_digits, names_length, number_of, with_decimal}

-- ---- words

length-filter : {A : Type 0} (test : A → Bool) (x : A) (xs : List A) → length (filter test (x ∷ xs)) ≡ length (filter test (x ∷ [])) + length (filter test xs)
length-filter test x xs =
    elim (test x) as (λ b. length (cond b (x ∷ filter test xs) (filter test xs)) ≡ length (cond b (x ∷ []) []) + length (filter test xs)) [
      | true ↦ omega arith
      | false ↦ omega arith
    ]

-- the words of a list are those of its first part and of the rest
pub words_more : (rest part more : List ℕ) → slice_split is_comma rest ≡ part ∷ slice_split is_comma more
    → length (comma_words rest) ≡ length (filter is_filled (trim_ows part ∷ [])) + length (comma_words more)
words_more rest part more is =
    ap (λ (parts : List (List ℕ)). length (filter is_filled (map trim_ows parts))) is
    ∙ length-filter is_filled (trim_ows part) (map trim_ows (slice_split is_comma more))

pub words_last : (rest : List ℕ) → slice_split is_comma rest ≡ rest ∷ [] → length (comma_words rest) ≡ length (filter is_filled (trim_ows rest ∷ []))
words_last rest is = ap (λ (parts : List (List ℕ)). length (filter is_filled (map trim_ows parts))) is

field_words-cons : (name : List ℕ) (f : Field) (fields : List Field)
    → length (field_words name (f ∷ fields)) ≡ cond (is_named name f) (length (comma_words f.value)) 0 + length (field_words name fields)
field_words-cons name f fields =
    elim (is_named name f) as (λ b. length (flat_map comma_words (map value_of (cond b (f ∷ filter (is_named name) fields) (filter (is_named name) fields))))
    ≡ cond b (length (comma_words f.value)) 0 + length (field_words name fields)) [
      | true ↦ length-append (comma_words f.value) (field_words name fields)
      | false ↦ sym (zero-add (length (field_words name fields)))
    ]

-- the words of the lines from one on
pub field_words_more : (name : List ℕ) (fields : List Field) (i : ℕ) (f : Field) → i < length fields → f ≡ get_or fields i f
    → length (field_words name (drop i fields)) ≡ cond (is_named name f) (length (comma_words f.value)) 0 + length (field_words name (drop (i + 1) fields))
field_words_more name fields i f below is =
    at_drop_more (λ (fs : List Field). length (field_words name fs)) fields i f below
    ∙ ap (λ (g : Field). length (field_words name (g ∷ drop (i + 1) fields))) (sym is)
    ∙ field_words-cons name f (drop (i + 1) fields)

pub field_words_end : (name : List ℕ) (fields : List Field) (i : ℕ) → length fields ≤ i → length (field_words name (drop i fields)) ≡ 0
field_words_end name fields i end = at_drop_all (λ (fs : List Field). length (field_words name fs)) fields i end

pub other_word_in : (name word : List ℕ) (fields : List Field)
    → list_any (λ (f : Field). list_any (is_other_word word) (comma_words f.value)) (filter (is_named name) fields)
    ≡ list_any (is_other_word word) (field_words name fields)
other_word_in name word fields =
    sym (list_any-flat_map (is_other_word word) comma_words (values_named name fields)
    ∙ list_any-map (λ (value : List ℕ). list_any (is_other_word word) (comma_words value)) value_of (filter (is_named name) fields))

-- ---- values

list_all-map : {A B : Type 0} (test : B → Bool) (f : A → B) (xs : List A) → list_all test (map f xs) ≡ list_all (λ (x : A). test (f x)) xs
list_all-map test f [] = refl
list_all-map test f (x ∷ xs) = ap (λ (rest : Bool). test (f x) && rest) (list_all-map test f xs)

-- the first of the values, and the others
pub first_value : (name : List ℕ) (fields : List Field) (f : Field) → find (is_named name) fields ≡ Some f
    → (others : List (List ℕ)) × (values_named name fields ≡ f.value ∷ others)
first_value name [] f found = absurd (cc)
first_value name (g ∷ fields) f found =
    elim (chosen (is_named name g) _ _ _ found) [
      | inl here ↦
          let same : g ≡ f = cc in (
            values_named name fields,
            ap (λ (b : Bool). map value_of (cond b (g ∷ filter (is_named name) fields) (filter (is_named name) fields))) here.0
                ∙ ap (λ (h : Field). h.value ∷ values_named name fields) same,
          )
      | inr later ↦
          let rest = first_value name fields f later.1 in (
            rest.0,
            ap (λ (b : Bool). map value_of (cond b (g ∷ filter (is_named name) fields) (filter (is_named name) fields))) later.0 ∙ rest.1,
          )
    ]

pub no_value : (name : List ℕ) (fields : List Field) → find (is_named name) fields ≡ None → values_named name fields ≡ []
no_value name [] none = refl
no_value name (g ∷ fields) none =
    elim (chosen (is_named name g) _ _ _ none) [
      | inl here ↦ absurd (cc)
      | inr later ↦
          ap (λ (b : Bool). map value_of (cond b (g ∷ filter (is_named name) fields) (filter (is_named name) fields))) later.0
          ∙ no_value name fields later.1
    ]

-- ---- the framing by its lengths

is_own_length : (digits value : List ℕ) → length_digits value ≡ Some digits → is_length digits value ≡ true
is_own_length digits value is = ap (names_length digits) is ∙ (bytes_eq-Decides digits digits).1 refl

all_lengths : (name : List ℕ) (fields : List Field) (f : Field) (others : List (List ℕ)) (digits : List ℕ) → values_named name fields ≡ f.value ∷ others
    → length_digits f.value ≡ Some digits
    → list_all (λ (g : Field). is_length digits g.value) (filter (is_named name) fields) ≡ list_all (is_length digits) others
all_lengths name fields f others digits values is =
    sym (list_all-map (is_length digits) value_of (filter (is_named name) fields))
    ∙ ap (list_all (is_length digits)) values
    ∙ ap (λ (b : Bool). b && list_all (is_length digits) others) (is_own_length digits f.value is)

pub lengths_none : (limit : ℕ) (name : List ℕ) (fields : List Field) → find (is_named name) fields ≡ None
    → Ok Empty ≡ framing_by_lengths limit (values_named name fields)
lengths_none limit name fields none = ap (framing_by_lengths limit) (sym (no_value name fields none))

pub lengths_bad : (limit : ℕ) (name : List ℕ) (fields : List Field) (f : Field) → find (is_named name) fields ≡ Some f → length_digits f.value ≡ None
    → Err BadFraming ≡ framing_by_lengths limit (values_named name fields)
lengths_bad limit name fields f found is =
    let first = first_value name fields f found in
    sym (ap (framing_by_lengths limit) first.1 ∙ ap (λ (o : Option (List ℕ)). framing_by_digits limit o first.0) is)

pub lengths_are : (limit : ℕ) (name : List ℕ) (fields : List Field) (f : Field) (digits : List ℕ) (same : Bool) → find (is_named name) fields ≡ Some f
    → length_digits f.value ≡ Some digits → same ≡ list_all (λ (g : Field). is_length digits g.value) (filter (is_named name) fields)
    → cond same (framing_by_number limit (number_of digits)) (Err BadFraming) ≡ framing_by_lengths limit (values_named name fields)
lengths_are limit name fields f digits same found is all =
    let first = first_value name fields f found in
    sym (ap (framing_by_lengths limit) first.1 ∙ ap (λ (o : Option (List ℕ)). framing_by_digits limit o first.0) is
    ∙ ap (λ (b : Bool). cond b (framing_by_number limit (number_of digits)) (Err BadFraming))
    (sym (all ∙ all_lengths name fields f first.0 digits first.1 is)))

-- ---- the framing by its codings

one_of_two : (n : ℕ) → eqb (min 2 n) 1 ≡ eqb n 1
one_of_two zero = refl
one_of_two (suc zero) = refl
one_of_two (suc (suc n)) =
    ne_eqb (min 2 (suc (suc n))) 1 (λ e. absurd (omega arith)) ∙ sym (ne_eqb (suc (suc n)) 1 (λ e. absurd (omega arith)))

pub codings_are : (name : List ℕ) (fields : List Field) (other : Bool) (count : ℕ)
    → other ≡ list_any is_other_coding (field_words name fields) → count ≡ min 2 (length (field_words name fields))
    → cond other (Err CodingUnknown) (cond (eqb count 1) (Ok Chunked) (Err BadFraming)) ≡ framing_by_codings (field_words name fields)
codings_are name fields other count other_is count_is =
    (λ i. cond (other_is i) (Err CodingUnknown) (cond (eqb count 1) (Ok Chunked) (Err BadFraming)))
    ∙ ap (λ (b : Bool). cond (list_any is_other_coding (field_words name fields)) (Err CodingUnknown) (cond b (Ok Chunked) (Err BadFraming)))
    (ap (λ (n : ℕ). eqb n 1) count_is ∙ one_of_two (length (field_words name fields)))

-- ---- numbers

pub number_grows : (number : ℕ) (digits : List ℕ) → number ≤ fold with_decimal number digits
number_grows number [] = omega arith
number_grows number (byte ∷ digits) = omega (arith, number_grows (with_decimal number byte) digits)

pub number_more : (number next i byte : ℕ) (digits : List ℕ) → i < length digits → byte ≡ get_or digits i 0 → next ≡ with_decimal number byte
    → fold with_decimal number (drop i digits) ≡ number_of digits → fold with_decimal next (drop (i + 1) digits) ≡ number_of digits
number_more number next i byte digits below is next_is total =
    ap (λ (n : ℕ). fold with_decimal n (drop (i + 1) digits)) (next_is ∙ ap (with_decimal number) is)
    ∙ sym (at_drop_more (fold with_decimal number) digits i 0 below) ∙ total

pub number_all : (number i : ℕ) (digits : List ℕ) → length digits ≤ i → number < 2 ^ 64 → fold with_decimal number (drop i digits) ≡ number_of digits
    → Some number ≡ cond (ltb (number_of digits) (2 ^ 64)) (Some (number_of digits)) None
number_all number i digits end fits total =
    let same : number ≡ number_of digits = sym (at_drop_all (fold with_decimal number) digits i end) ∙ total in
    ap (λ (n : ℕ). Some n) same ∙ sym (cond-true _ _ _ (lt-ltb (number_of digits) (2 ^ 64) (omega arith)))

pub number_long : (number i byte : ℕ) (digits : List ℕ) → i < length digits → byte ≡ get_or digits i 0
    → None ≡ cond (ltb (with_decimal number byte) (2 ^ 64)) (Some (with_decimal number byte)) None
    → fold with_decimal number (drop i digits) ≡ number_of digits → None ≡ cond (ltb (number_of digits) (2 ^ 64)) (Some (number_of digits)) None
number_long number i byte digits below is none total =
    let least = number_grows (with_decimal number byte) (drop (i + 1) digits) in
    let more = number_more number (with_decimal number byte) i byte digits below is refl total in
    elim (chosen (ltb (with_decimal number byte) (2 ^ 64)) _ _ _ (sym none)) [
      | inl fits ↦ absurd (cc)
      | inr long ↦
          let past = ltb-false _ _ long.0 in
          sym (cond-false _ _ _ (le-ltb (number_of digits) (2 ^ 64) (omega arith)))
    ]

-- ---- the framing of a head

pub framing_without : (head : Head) (limits : Limits) (fields : List Field) → fields ≡ head.fields → has_field (codes "Transfer-Encoding") fields ≡ false
    → framing_by_lengths limits.body (values_named (codes "Content-Length") fields) ≡ framing_of head limits
unfolding framing_of
framing_without head limits fields is none =
    ap (λ (fs : List Field). framing_by_lengths limits.body (values_named (codes "Content-Length") fs)) is
    ∙ sym (cond-false _ _ _ (ap (has_field (codes "Transfer-Encoding")) (sym is) ∙ none))

pub framing_refused : (head : Head) (limits : Limits) (fields : List Field) → fields ≡ head.fields → has_field (codes "Transfer-Encoding") fields ≡ true
    → is_codings_refused head ≡ true → Err BadFraming ≡ framing_of head limits
unfolding framing_of
framing_refused head limits fields is some out =
    sym (cond-true _ _ _ (ap (has_field (codes "Transfer-Encoding")) (sym is) ∙ some) ∙ cond-true _ _ _ out)

pub framing_coded : (head : Head) (limits : Limits) (fields : List Field) → fields ≡ head.fields → has_field (codes "Transfer-Encoding") fields ≡ true
    → is_codings_refused head ≡ false
    → framing_by_codings (field_words (codes "Transfer-Encoding") fields) ≡ framing_of head limits
unfolding framing_of
framing_coded head limits fields is some fine =
    ap (λ (fs : List Field). framing_by_codings (field_words (codes "Transfer-Encoding") fs)) is
    ∙ sym (cond-true _ _ _ (ap (has_field (codes "Transfer-Encoding")) (sym is) ∙ some) ∙ cond-false _ _ _ fine)
