-- Arrays gone over item by item.
use Rattle.std.proofs.Common.{◌≡◌, ℕ, ◌+◌, ◌<◌, List, [], ◌∷◌, ◌++◌, drop, length, get_or, Option, Some, None, option_map, append_assoc, refl}
use Rattle.toml.specs.Data.{Data, Items, item}
use Rattle.toml.specs.View.{view, items_view}
use Rattle.toml.specs.declared.value.Value.{Value}
use Rattle.toml.proofs.Views.{items_view-drop}
use Rattle.site_file.specs.Keys.{each_of}

-- the values so far before those of the items that are left
abbrev pub with_rest : {A : Type 0} → List A → Option (List A) → Option (List A)
with_rest done rest = option_map (λ values. done ++ values) rest

after_kept : {A : Type 0} (done : List A) (value : A) (rest : Option (List A))
    → option_map (λ values. done ++ values) (option_map (λ values. value ∷ values) rest) ≡ option_map (λ values. (done ++ value ∷ []) ++ values) rest
after_kept done value None = refl
after_kept done value (Some values) = rw append_assoc

pub each_of-kept : {A : Type 0} (kind : Data → Option A) (done : List A) (value : A) (found : Data) (rest : Items) → kind found ≡ Some value
    → with_rest done (each_of kind (item found rest)) ≡ with_rest (done ++ value ∷ []) (each_of kind rest)
each_of-kept kind done value found rest same = rw same (after_kept done value (each_of kind rest))

pub each_of-other : {A : Type 0} (kind : Data → Option A) (done : List A) (found : Data) (rest : Items) → kind found ≡ None
    → with_rest done (each_of kind (item found rest)) ≡ None
each_of-other kind done found rest same = rw same

-- one more item is of the kind
pub array_kept : {A : Type 0} (kind : Data → Option A) (done : List A) (value : A) (items : List Value) (i : ℕ) (d : Value) → i < length items
    → kind (view (get_or items i d)) ≡ Some value
    → with_rest done (each_of kind (items_view (drop i items))) ≡ with_rest (done ++ value ∷ []) (each_of kind (items_view (drop (i + 1) items)))
array_kept kind done value items i d within same = rw (items_view-drop items i d within) (each_of-kept kind done value _ _ same)

-- an item isn't of the kind
pub array_other : {A : Type 0} (kind : Data → Option A) (done : List A) (items : List Value) (i : ℕ) (d : Value) → i < length items
    → kind (view (get_or items i d)) ≡ None
    → with_rest done (each_of kind (items_view (drop i items))) ≡ None
array_other kind done items i d within same = rw (items_view-drop items i d within) (each_of-other kind done _ _ same)
