-- A word that looks at some items alone says the same of two lists that have the same of these.
use Rattle.std.proofs.Common.{◌≡◌, ℕ, ◌+◌, Bool, true, false, List, [], ◌∷◌, ◌++◌, refl, sym, ◌∙◌, ap, arith, inl, inr, length}
use Rattle.std.specs.Prelude.{◌||◌, filter, count_by, sum_by, if◌then◌else◌}
use Rattle.std.specs.List.{list_any, flat_map}
use Rattle.std.proofs.lemmas.Bool.{cases_Bool, or_from, or_parts, cond-true, cond-false}
use Rattle.std.proofs.lemmas.List.Sums.{length-filter, sum_by-cons}
use Rattle.host_trace.specs.First.{since}

any-filter : {X : Type 0} (p q : X → Bool) → ((x : X) → q x ≡ false → p x ≡ false) → (xs : List X) → list_any p (filter q xs) ≡ list_any p xs
any-filter p q h [] = refl
any-filter p q h (x ∷ xs) = elim (cases_Bool (q x)) [
  | inl e ↦ ap (list_any p) (cond-true (q x) (x ∷ filter q xs) (filter q xs) e) ∙ ap (λ b. p x || b) (any-filter p q h xs)
  | inr e ↦ ap (list_any p) (cond-false (q x) (x ∷ filter q xs) (filter q xs) e) ∙ (any-filter p q h xs ∙ sym (ap (λ b. b || list_any p xs) (h x e)))
]

flat-filter : {X A : Type 0} (f : X → List A) (q : X → Bool) → ((x : X) → q x ≡ false → f x ≡ []) → (xs : List X) → flat_map f (filter q xs) ≡ flat_map f xs
flat-filter f q h [] = refl
flat-filter f q h (x ∷ xs) = elim (cases_Bool (q x)) [
  | inl e ↦ ap (flat_map f) (cond-true (q x) (x ∷ filter q xs) (filter q xs) e) ∙ ap (λ l. f x ++ l) (flat-filter f q h xs)
  | inr e ↦ ap (flat_map f) (cond-false (q x) (x ∷ filter q xs) (filter q xs) e) ∙ (flat-filter f q h xs ∙ sym (ap (λ l. l ++ flat_map f xs) (h x e)))
]

pub any-kept : {X : Type 0} (p q : X → Bool) → ((x : X) → q x ≡ false → p x ≡ false) → (xs ys : List X) → filter q xs ≡ filter q ys → list_any p xs ≡ list_any p ys
any-kept p q h xs ys e = sym (any-filter p q h xs) ∙ (ap (list_any p) e ∙ any-filter p q h ys)

pub flat-kept : {X A : Type 0} (f : X → List A) (q : X → Bool) → ((x : X) → q x ≡ false → f x ≡ []) → (xs ys : List X) → filter q xs ≡ filter q ys → flat_map f xs ≡ flat_map f ys
flat-kept f q h xs ys e = sym (flat-filter f q h xs) ∙ (ap (flat_map f) e ∙ flat-filter f q h ys)

pub filter-filter : {X : Type 0} (p q : X → Bool) → ((x : X) → q x ≡ false → p x ≡ false) → (xs : List X) → filter p (filter q xs) ≡ filter p xs
filter-filter p q h [] = refl
filter-filter p q h (x ∷ xs) = elim (cases_Bool (q x)) [
  | inl e ↦ ap (filter p) (cond-true (q x) (x ∷ filter q xs) (filter q xs) e) ∙ (λ i. if p x then x ∷ filter-filter p q h xs i else filter-filter p q h xs i)
  | inr e ↦ ap (filter p) (cond-false (q x) (x ∷ filter q xs) (filter q xs) e) ∙ (filter-filter p q h xs ∙ sym (cond-false (p x) (x ∷ filter p xs) (filter p xs) (h x e)))
]

pub count-kept : {X : Type 0} (p q : X → Bool) → ((x : X) → q x ≡ false → p x ≡ false) → (xs ys : List X) → filter q xs ≡ filter q ys → count_by p xs ≡ count_by p ys
count-kept p q h xs ys e =
    sym (length-filter p xs) ∙ (ap length (sym (filter-filter p q h xs) ∙ (ap (filter p) e ∙ filter-filter p q h ys)) ∙ length-filter p ys)

pub sum-filter : {X : Type 0} (f : X → ℕ) (q : X → Bool) → ((x : X) → q x ≡ false → f x ≡ 0) → (xs : List X) → sum_by f (filter q xs) ≡ sum_by f xs
sum-filter f q h [] = refl
sum-filter f q h (x ∷ xs) = elim (cases_Bool (q x)) [
  | inl e ↦ ap (sum_by f) (cond-true (q x) (x ∷ filter q xs) (filter q xs) e) ∙ (sum_by-cons f x (filter q xs) ∙ (ap (λ n. f x + n) (sum-filter f q h xs) ∙ sym (sum_by-cons f x xs)))
  | inr e ↦ ap (sum_by f) (cond-false (q x) (x ∷ filter q xs) (filter q xs) e) ∙ (sum-filter f q h xs ∙ sym (sum_by-cons f x xs ∙ (ap (λ n. n + sum_by f xs) (h x e) ∙ none_more (sum_by f xs))))
]
  where
    none_more : (n : ℕ) → 0 + n ≡ n
    none_more n = omega arith

pub sum-kept : {X : Type 0} (f : X → ℕ) (q : X → Bool) → ((x : X) → q x ≡ false → f x ≡ 0) → (xs ys : List X) → filter q xs ≡ filter q ys → sum_by f xs ≡ sum_by f ys
sum-kept f q h xs ys e = sym (sum-filter f q h xs) ∙ (ap (sum_by f) e ∙ sum-filter f q h ys)

pub since-filter : {X : Type 0} (p q : X → Bool) → ((x : X) → q x ≡ false → p x ≡ false) → (xs : List X) → filter q (since p xs) ≡ since p (filter q xs)
since-filter p q h [] = refl
since-filter p q h (x ∷ xs) = elim (cases_Bool (q x)) [
  | inl e ↦
      since-either (p x) (since-filter p q h xs) ∙ sym (ap (since p) (cond-true (q x) (x ∷ filter q xs) (filter q xs) e))
  | inr e ↦
      ap (filter q) (cond-false (p x) xs (since p xs) (h x e)) ∙ (since-filter p q h xs ∙ sym (ap (since p) (cond-false (q x) (x ∷ filter q xs) (filter q xs) e)))
]
  where
    since-either : (b : Bool) → filter q (since p xs) ≡ since p (filter q xs) → filter q (if b then xs else since p xs) ≡ (if b then filter q xs else since p (filter q xs))
    since-either true rest = refl
    since-either false rest = rest

-- where no item is of the one kind, none is of a narrower one
pub none-narrower : {X : Type 0} (p q : X → Bool) → ((x : X) → q x ≡ false → p x ≡ false) → (xs : List X) → list_any q xs ≡ false → list_any p xs ≡ false
none-narrower p q h [] e = refl
none-narrower p q h (x ∷ xs) e =
    let parts = or_parts (q x) (list_any q xs) e in
    or_from _ _ (h x parts.0) (none-narrower p q h xs parts.1)
