-- The items before the first that passes, item by item.
use Rattle.std.proofs.Common.{◌≡◌, ℕ, ◌+◌, ◌<◌, ◌∙◌, Bool, true, false, List, [], ◌∷◌, ◌++◌, refl, sym, ap, add-one, append-nil, append_assoc, length, take, drop, get_or, drop-cons}
use Rattle.std.proofs.Math.Seq.{take-suc}
use Rattle.trace_child.specs.Words.{until}
use Rattle.host_trace.specs.declared.items.Item.{Item}

until_next : (test : Item → Bool) (x : Item) (items : List Item) → test x ≡ false → until test (x ∷ items) ≡ x ∷ until test items
until_next test x items not = rw not refl

until_last : (test : Item → Bool) (x : Item) (items : List Item) → test x ≡ true → until test (x ∷ items) ≡ []
until_last test x items so = rw so refl

drop_at : (xs : List Item) (i : ℕ) (x : Item) → i < length xs → x ≡ get_or xs i x → drop i xs ≡ x ∷ drop (i + 1) xs
drop_at xs i x inside is = rw (add-one, drop-cons xs i x inside, ← is) refl

take_at_next : (xs : List Item) (i : ℕ) (x : Item) → i < length xs → x ≡ get_or xs i x → take (i + 1) xs ≡ take i xs ++ x ∷ []
take_at_next xs i x inside is = rw (add-one, take-suc xs i x inside, ← is) refl

pub until_step : (test : Item → Bool) (xs : List Item) (i : ℕ) (x : Item) → i < length xs → x ≡ get_or xs i x → test x ≡ false
    → take i xs ++ until test (drop i xs) ≡ take (i + 1) xs ++ until test (drop (i + 1) xs)
until_step test xs i x inside is not =
    ap (λ l. take i xs ++ until test l) (drop_at xs i x inside is) ∙ ap (λ l. take i xs ++ l) (until_next test x (drop (i + 1) xs) not)
    ∙ sym (append_assoc (take i xs) (x ∷ []) (until test (drop (i + 1) xs))) ∙ ap (λ l. l ++ until test (drop (i + 1) xs)) (sym (take_at_next xs i x inside is))

pub until_here : (test : Item → Bool) (xs : List Item) (i : ℕ) (x : Item) → i < length xs → x ≡ get_or xs i x → test x ≡ true
    → take i xs ++ until test (drop i xs) ≡ take i xs
until_here test xs i x inside is so =
    ap (λ l. take i xs ++ until test l) (drop_at xs i x inside is) ∙ ap (λ l. take i xs ++ l) (until_last test x (drop (i + 1) xs) so) ∙ append-nil (take i xs)
