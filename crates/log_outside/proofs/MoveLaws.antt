-- What holds of outsides holds of those over them.
use Rattle.std.proofs.Common.{◌≡◌, List, [], ◌∷◌, refl, ap, subst, sym, ◌∙◌, All, map}
use Rattle.std.proofs.lemmas.List.Elements.{All-cons, All-head, All-nil, All-tail}

all_back : {A B : Type 0} (P : A → Type 0) (f : B → A) (xs : List B) → All P (map f xs) → All (λ b. P (f b)) xs
all_back P f [] h = All-nil (λ b. P (f b))
all_back P f (x ∷ xs) h =
    All-cons (λ b. P (f b)) x xs (All-head P (f x) (map f xs) h) (all_back P f xs (All-tail P (f x) (map f xs) h))

pub all_over : {A B : Type 0} (P : A → Type 0) (f : B → A) (xs : List B) (ys : List A) → map f xs ≡ ys → All P ys → All (λ b. P (f b)) xs
all_over P f xs ys same h = all_back P f xs (subst (All P) (sym same) h)

map_twice : {A B C : Type 0} (f : B → C) (g : A → B) (xs : List A) → map f (map g xs) ≡ map (λ x. f (g x)) xs
map_twice f g [] = refl
map_twice f g (x ∷ xs) = ap (λ l. f (g x) ∷ l) (map_twice f g xs)

pub map_over : {A B C : Type 0} (f : B → C) (g : A → B) (xs : List A) (ys : List B) → ys ≡ map g xs → map f ys ≡ map (λ x. f (g x)) xs
map_over f g xs ys same = ap (map f) same ∙ map_twice f g xs
