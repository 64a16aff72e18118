-- The one field line of a name.
use Rattle.std.proofs.Common.{◌≡◌, ◌≢◌, ℕ, Bool, List, [], ◌∷◌, length, map, refl, sym, ap, ◌∙◌, arith, cond, inl, inr, Option, Some, None, count_by}
use Rattle.std.specs.List.{filter, find}
use Rattle.std.proofs.lemmas.List.{nil_from_length}
use Rattle.std.proofs.lemmas.List.Sums.{length-filter}
use Rattle.host_base.specs.declared.fields.Field.{Field}
use Rattle.host_base.specs.FieldLists.{is_named, value_of, values_named}
use Rattle.host_base.proofs.SplitLaws.{chosen}
use Rattle.ws_handshake.specs.Handshake.{only}

-- what is found first comes first among those that pass
filter-find : (test : Field → Bool) (xs : List Field) (x : Field) → find test xs ≡ Some x → (rest : List Field) × (filter test xs ≡ x ∷ rest)
filter-find test [] x is = absurd (cc)
filter-find test (y ∷ xs) x is =
    elim (chosen (test y) _ _ _ is) [
      | inl here ↦
          let same : y ≡ x = cc in
          (filter test xs, ap (λ b. cond b (y ∷ filter test xs) (filter test xs)) here.0 ∙ ap (λ z. z ∷ filter test xs) same)
      | inr other ↦
          let later = filter-find test xs x other.1 in
          (later.0, ap (λ b. cond b (y ∷ filter test xs) (filter test xs)) other.0 ∙ later.1)
    ]

filter-find_none : (test : Field → Bool) (xs : List Field) → find test xs ≡ None → filter test xs ≡ []
filter-find_none test [] is = refl
filter-find_none test (y ∷ xs) is =
    elim (chosen (test y) _ _ _ is) [
      | inl here ↦ absurd (cc)
      | inr other ↦ ap (λ b. cond b (y ∷ filter test xs) (filter test xs)) other.0 ∙ filter-find_none test xs other.1
    ]

-- one field line
pub only-one : (name : List ℕ) (fields : List Field) (f : Field) → find (is_named name) fields ≡ Some f
    → count_by (is_named name) fields ≡ 1 → only (values_named name fields) ≡ Some f.value
only-one name fields f found one =
    let some = filter-find (is_named name) fields f found in
    let none : some.0 ≡ [] = nil_from_length _ (omega (arith, ap length some.1, length-filter (is_named name) fields)) in
    ap (λ fs. only (map value_of fs)) (some.1 ∙ ap (λ fs. f ∷ fs) none)

-- two or more
pub only-more : (name : List ℕ) (fields : List Field) (f : Field) → find (is_named name) fields ≡ Some f
    → count_by (is_named name) fields ≢ 1 → only (values_named name fields) ≡ None
only-more name fields f found more =
    let some = filter-find (is_named name) fields f found in
    ap (λ fs. only (map value_of fs)) some.1
    ∙ two some.0 (λ none. more (sym (length-filter (is_named name) fields) ∙ ap length (some.1 ∙ ap (λ fs. f ∷ fs) none)))
  where
    two : (rest : List Field) → (rest ≡ [] → ⊥) → only (map value_of (f ∷ rest)) ≡ None
    two [] some = absurd (some refl)
    two (g ∷ rest) some = refl

-- none
pub only-none : (name : List ℕ) (fields : List Field) → find (is_named name) fields ≡ None → only (values_named name fields) ≡ None
only-none name fields none = ap (λ fs. only (map value_of fs)) (filter-find_none (is_named name) fields none)

pub of-value : (o : Option (List ℕ)) (f : Field) (value : List ℕ) → value ≡ f.value → o ≡ Some f.value → Some value ≡ o
of-value o f value same is = ap (λ (v : List ℕ). Some v) same ∙ sym is
