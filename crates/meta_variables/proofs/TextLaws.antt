-- Texts that are joined, and texts of bytes.
use Rattle.std.proofs.Common.{◌≡◌, ℕ, zero, suc, lit<, ◌+◌, ◌<◌, Bool, true, false, cond, List, [], ◌∷◌, ◌++◌, length, map, take, filter, get_or, refl, sym, ap, ◌∙◌, arith, ltb, inl, inr, append_assoc, append-nil, length-append}
use Rattle.std.specs.Prelude.{encode_utf8}
use Rattle.std.specs.List.{flat_map, list_all}
use Rattle.std.specs.Char.{len_utf8}
use Rattle.std.specs.Str.{IsUtf8, is_utf8}
use Rattle.std.proofs.lemmas.Bool.{cases_Bool, and_parts, cond-true, cond-false, lt-ltb, ltb-true}
use Rattle.std.proofs.lemmas.Bool.Decides.{nat_tests}
use Rattle.std.proofs.lemmas.List.{map-append, take_more}
use Rattle.std.proofs.lemmas.List.Elements.{filter-append}
use Rattle.std.proofs.lemmas.Str.{IsUtf8-from_ascii, IsUtf8-from_is_utf8, is_utf8-from_IsUtf8, length-encode}
use Rattle.host_base.specs.declared.fields.Field.{Field}
use Rattle.host_base.specs.FieldLists.{is_named, value_of, values_named}
use Rattle.httparse.specs.Grammar.{trim_ows}
use Rattle.meta_variables.specs.Parts.{joined_more}
use Rattle.meta_variables.specs.Variables.{is_filled, as_text, joined, joined_values}

ascii_bytes : (test : ℕ → Bool) → ((b : ℕ) → test b ≡ true → b < 128) → (xs : List ℕ) → list_all test xs ≡ true → (i : ℕ) → get_or xs i 0 < 128
ascii_bytes test small [] all zero = lit< tt
ascii_bytes test small [] all (suc i) = lit< tt
ascii_bytes test small (x ∷ xs) all zero = small x (and_parts (test x) (list_all test xs) all).0
ascii_bytes test small (x ∷ xs) all (suc i) = ascii_bytes test small xs (and_parts (test x) (list_all test xs) all).1 i

-- bytes that pass a test for ASCII are a text
pub ascii_text : (test : ℕ → Bool) → ((b : ℕ) → test b ≡ true → b < 128) → (bytes : List ℕ) → list_all test bytes ≡ true → is_utf8 bytes ≡ true
ascii_text test small bytes all = is_utf8-from_IsUtf8 bytes (IsUtf8-from_ascii bytes (ascii_bytes test small bytes all))

-- ---- a text, or characters of ISO 8859-1

pub text_is : (bytes : List ℕ) → IsUtf8 bytes → as_text bytes ≡ bytes
text_is bytes text = cond-true (is_utf8 bytes) bytes (flat_map encode_utf8 bytes) (is_utf8-from_IsUtf8 bytes text)

pub latin1_is : (bytes : List ℕ) → (IsUtf8 bytes → ⊥) → as_text bytes ≡ flat_map encode_utf8 bytes
latin1_is bytes never =
    elim (cases_Bool (is_utf8 bytes)) [
      | inl text ↦ absurd (never (IsUtf8-from_is_utf8 bytes text))
      | inr other ↦ cond-false (is_utf8 bytes) bytes (flat_map encode_utf8 bytes) other
    ]

-- ---- joined texts

joined_next : (separator text next : List ℕ) (texts : List (List ℕ))
    → joined separator ((text ∷ texts) ++ next ∷ []) ≡ joined separator (text ∷ texts) ++ separator ++ next
joined_next separator text next [] = refl
joined_next separator text next (second ∷ more) =
    ap (λ (l : List ℕ). text ++ separator ++ l) (joined_next separator second next more)
    ∙ sym (append_assoc (text ++ separator) (joined separator (second ∷ more) ++ separator) next)
    ∙ ap (λ (l : List ℕ). l ++ next) (sym (append_assoc (text ++ separator) (joined separator (second ∷ more)) separator))

joined_length : (separator text : List ℕ) (texts : List (List ℕ)) → 0 < length text → 0 < length (joined separator (text ∷ texts))
joined_length separator text [] some = some
joined_length separator text (second ∷ more) some =
    omega (arith, length-append (text ++ separator) (joined separator (second ∷ more)), length-append text separator)

len_some : (b : ℕ) → 0 < len_utf8 b
len_some b = grind (arith, nat_tests)

-- a text of bytes that are some has some too
text_some : (bytes : List ℕ) → is_filled bytes ≡ true → 0 < length (as_text bytes)
text_some bytes some =
    elim (cases_Bool (is_utf8 bytes)) [
      | inl text ↦ omega (arith, ltb-true 0 (length bytes) some, ap length (cond-true (is_utf8 bytes) bytes (flat_map encode_utf8 bytes) text))
      | inr other ↦ omega (arith, encoded_some bytes (ltb-true 0 (length bytes) some), ap length (cond-false (is_utf8 bytes) bytes (flat_map encode_utf8 bytes) other))
    ]
  where
    encoded_some : (bs : List ℕ) → 0 < length bs → 0 < length (flat_map encode_utf8 bs)
    encoded_some [] some = absurd (omega arith)
    encoded_some (b ∷ bs) some = omega (arith, length-append (encode_utf8 b) (flat_map encode_utf8 bs), length-encode b, len_some b)

-- one more value, where those before are some or none
with_next : (separator next : List ℕ) (filled : List (List ℕ)) → (first : (x : List ℕ) (xs : List (List ℕ)) → filled ≡ x ∷ xs → is_filled x ≡ true)
    → joined separator (map as_text filled ++ next ∷ [])
    ≡ cond (ltb 0 (length (joined separator (map as_text filled)))) (joined separator (map as_text filled) ++ separator ++ next) (joined separator (map as_text filled) ++ next)
with_next separator next [] first = refl
with_next separator next (x ∷ xs) first =
    joined_next separator (as_text x) next (map as_text xs)
    ∙ sym (cond-true (ltb 0 (length (joined separator (map as_text (x ∷ xs))))) _ _
    (lt-ltb _ _ (joined_length separator (as_text x) (map as_text xs) (text_some x (first x xs refl)))))

first_filled : (values : List (List ℕ)) (x : List ℕ) (xs : List (List ℕ)) → filter is_filled values ≡ x ∷ xs → is_filled x ≡ true
first_filled [] x xs is = absurd (cc)
first_filled (v ∷ values) x xs is = by_case (λ told. first_filled values x xs told) (is_filled v) refl is
  where
    by_case : (filter is_filled values ≡ x ∷ xs → is_filled x ≡ true) → (b : Bool) → is_filled v ≡ b → cond b (v ∷ filter is_filled values) (filter is_filled values) ≡ x ∷ xs → is_filled x ≡ true
    by_case later true here told = let same : v ≡ x = cc in ap is_filled (sym same) ∙ here
    by_case later false other told = later told

pub joined_push : (separator : List ℕ) (values : List (List ℕ)) (value : List ℕ)
    → joined_values separator (values ++ value ∷ []) ≡ joined_more separator (joined_values separator values) (trim_ows value)
joined_push separator values value =
    ap (λ vs. joined separator (map as_text (filter is_filled vs))) (map-append trim_ows values (value ∷ []))
    ∙ ap (λ vs. joined separator (map as_text vs)) (filter-append is_filled (map trim_ows values) (trim_ows value ∷ []))
    ∙ by_case (is_filled (trim_ows value))
  where
    by_case : (b : Bool) → joined separator (map as_text (filter is_filled (map trim_ows values) ++ cond b (trim_ows value ∷ []) []))
        ≡ cond b (cond (ltb 0 (length (joined_values separator values))) (joined_values separator values ++ separator ++ as_text (trim_ows value)) (joined_values separator values ++ as_text (trim_ows value))) (joined_values separator values)
    by_case true =
        ap (joined separator) (map-append as_text (filter is_filled (map trim_ows values)) (trim_ows value ∷ []))
        ∙ with_next separator (as_text (trim_ows value)) (filter is_filled (map trim_ows values)) (first_filled (map trim_ows values))
    by_case false = ap (λ vs. joined separator (map as_text vs)) (append-nil (filter is_filled (map trim_ows values)))

-- ---- the values of a field, line by line

pub joined_line : (separator name : List ℕ) (fields : List Field) (i : ℕ) (f : Field) (before now : List ℕ) → i < length fields → f ≡ get_or fields i f
    → is_named name f ≡ true → before ≡ joined_values separator (values_named name (take i fields)) → now ≡ joined_more separator before (trim_ows f.value)
    → now ≡ joined_values separator (values_named name (take (i + 1) fields))
joined_line separator name fields i f before now below here named was step =
    step ∙ ap (λ text. joined_more separator text (trim_ows f.value)) was
    ∙ sym (joined_push separator (values_named name (take i fields)) f.value)
    ∙ ap (joined_values separator) (sym (ap (map value_of) (line_next name fields i f below here ∙ ap (λ b. filter (is_named name) (take i fields) ++ cond b (f ∷ []) []) named)
    ∙ map-append value_of (filter (is_named name) (take i fields)) (f ∷ [])))
  where
    line_next : (name : List ℕ) (fields : List Field) (i : ℕ) (f : Field) → i < length fields → f ≡ get_or fields i f
        → filter (is_named name) (take (i + 1) fields) ≡ filter (is_named name) (take i fields) ++ filter (is_named name) (f ∷ [])
    line_next name fields i f below here =
        ap (filter (is_named name)) (take_more fields i f below ∙ ap (λ (g : Field). take i fields ++ g ∷ []) (sym here))
        ∙ filter-append (is_named name) (take i fields) (f ∷ [])

pub other_line : (separator name : List ℕ) (fields : List Field) (i : ℕ) (f : Field) (before : List ℕ) → i < length fields → f ≡ get_or fields i f
    → is_named name f ≡ false → before ≡ joined_values separator (values_named name (take i fields))
    → before ≡ joined_values separator (values_named name (take (i + 1) fields))
other_line separator name fields i f before below here other was =
    was ∙ ap (λ fs. joined_values separator (map value_of fs)) (sym (
    ap (filter (is_named name)) (take_more fields i f below ∙ ap (λ (g : Field). take i fields ++ g ∷ []) (sym here))
    ∙ filter-append (is_named name) (take i fields) (f ∷ [])
    ∙ ap (λ b. filter (is_named name) (take i fields) ++ cond b (f ∷ []) []) other
    ∙ append-nil (filter (is_named name) (take i fields))))
