-- Whether one of many passes a test, of lists that were made from others.
use Rattle.std.proofs.Common.{◌≡◌, Bool, true, false, List, [], ◌∷◌, map, refl, ◌∙◌, ap}
use Rattle.std.specs.Prelude.{filter, ◌&&◌, ◌||◌, if◌then◌else◌}
use Rattle.std.specs.List.{list_any, flat_map}
use Rattle.std.proofs.lemmas.List.Folds.{list_any-append}

pub list_any-map : {A B : Type 0} (test : B → Bool) (f : A → B) (xs : List A) → list_any test (map f xs) ≡ list_any (λ x. test (f x)) xs
list_any-map test f [] = refl
list_any-map test f (x ∷ xs) = ap (λ rest. test (f x) || rest) (list_any-map test f xs)

pub list_any-filter-map : {A B : Type 0} (test keep : B → Bool) (f : A → B) (xs : List A) →
    list_any test (filter keep (map f xs)) ≡ list_any (λ x. keep (f x) && test (f x)) xs
list_any-filter-map test keep f [] = refl
list_any-filter-map test keep f (x ∷ xs) =
    elim (keep (f x)) as (λ kept. list_any test (if kept then f x ∷ filter keep (map f xs) else filter keep (map f xs)) ≡ (kept && test (f x) || list_any (λ x. keep (f x) && test (f x)) xs)) [
      | true ↦ ap (λ rest. test (f x) || rest) (list_any-filter-map test keep f xs)
      | false ↦ list_any-filter-map test keep f xs
    ]

pub list_any-flat_map : {A B : Type 0} (test : B → Bool) (f : A → List B) (xs : List A) →
    list_any test (flat_map f xs) ≡ list_any (λ x. list_any test (f x)) xs
list_any-flat_map test f [] = refl
list_any-flat_map test f (x ∷ xs) =
    list_any-append test (f x) (flat_map f xs) ∙ ap (λ rest. list_any test (f x) || rest) (list_any-flat_map test f xs)
