-- The record of the one loop is that of the trace that was given back.
use Rattle.std.proofs.Common.{◌≡◌, ℕ, ◌∙◌, arith, List, [], ◌∷◌, ◌++◌, Option, Some, true, refl, sym, ap, subst, map, length}
use Rattle.std.specs.Prelude.{All}
use Rattle.std.proofs.lemmas.List.Elements.{All-cons, All-head, All-nil, All-tail, All-weaker}
use Rattle.host_trace.specs.declared.items.Item.{Item}
use Rattle.host_trace.specs.declared.items.Item.TheVariants.{In, Out}
use Rattle.host_trace.specs.Told.{IsNew, JoinedTo}
use Rattle.host_loop.specs.Loops.{IsFresh, WhereTold}
use Rattle.host_loop.proofs.GivenLaws.{new_is_fresh}
use Rattle.trace_model.specs.Good.{begins_with_event as is_begun}
use Rattle.trace_text.specs.Spelling.{begins_with_event}
use Rattle.trace_laws.specs.Promised.{Promised}
use Rattle.host_base.specs.declared.site.Site.{Site}
use Rattle.record_outside.specs.Record.{Records}
use Rattle.record_serve.specs.Recorded.{IsRecordOf}

-- a promised trace begins with an event
begins : (T : List Item) → is_begun T ≡ true → begins_with_event T ≡ true
begins [] h = refl
begins (In e ∷ T) h = refl
begins (Out a ∷ T) h = h

pub map_twice : {A B C : Type 0} (f : B → C) (g : A → B) (xs : List A) → map f (map g xs) ≡ map (λ x. f (g x)) xs
map_twice f g [] = refl
map_twice f g (x ∷ xs) = ap (λ l. f (g x) ∷ l) (map_twice f g xs)

head_is : {X : Type 0} (x y : X) (xs ys : List X) → x ∷ xs ≡ y ∷ ys → x ≡ y
head_is x y xs ys e = cc

tail_is : {X : Type 0} (x y : X) (xs ys : List X) → x ∷ xs ≡ y ∷ ys → xs ≡ ys
tail_is x y xs ys e = cc

none_left : (added : List (List Item)) → [] ≡ map Some added → added ≡ []
none_left [] e = refl
none_left (T ∷ added) e = absurd (cc)

-- one outside was taken back, and the text is the record of what it tells
pub recorded : {O : Type 0} (trace : O → Option (List Item)) (site : Site) (outs : List O) (text : List ℕ) (before : Option (List (List Item))) (now : List (List Item)) → length outs ≡ 1
    → All (λ o. Records (trace o) text) outs → All (λ o. WhereTold (Promised site) (trace o)) outs → JoinedTo before (map trace outs) now → IsRecordOf before text now
recorded trace site [] text before now one records good j = absurd (cc)
recorded trace site (o ∷ p ∷ outs) text before now one records good j = absurd (omega arith)
recorded trace site (o ∷ []) text before now one records good j =
    go j.added j.each j.grew
  where
    go : (added : List (List Item)) → trace o ∷ [] ≡ map Some added → now ≡ j.was ++ added → IsRecordOf before text now
    go [] e grew = absurd (cc)
    go (T ∷ added) e grew =
        let told : trace o ≡ Some T = head_is (trace o) (Some T) [] (map Some added) e in
        let none : added ≡ [] = none_left added (tail_is (trace o) (Some T) [] (map Some added) e) in
        record {
          was = j.was;
          trace = T;
          told = j.told;
          grew = grew ∙ ap (λ l. j.was ++ T ∷ l) none;
          recorded = All-head (λ o. Records (trace o) text) o [] records T told (begins T (All-head (λ o. WhereTold (Promised site) (trace o)) o [] good T told).good.begun);
        }

-- ---- what holds of outsides holds of those over them

all_back : {A B : Type 0} (P : A → Type 0) (f : B → A) (xs : List B) → All P (map f xs) → All (λ b. P (f b)) xs
all_back P f [] h = All-nil (λ b. P (f b))
all_back P f (x ∷ xs) h =
    All-cons (λ b. P (f b)) x xs (All-head P (f x) (map f xs) h) (all_back P f xs (All-tail P (f x) (map f xs) h))

pub all_over : {A B : Type 0} (P : A → Type 0) (f : B → A) (xs : List B) (ys : List A) → map f xs ≡ ys → All P ys → All (λ b. P (f b)) xs
all_over P f xs ys same h = all_back P f xs (subst (All P) (sym same) h)

pub all_under : {A B : Type 0} (P : A → Type 0) (f : B → A) (xs : List B) → All (λ b. P (f b)) xs → All P (map f xs)
all_under P f [] h = All-nil P
all_under P f (x ∷ xs) h =
    All-cons P (f x) (map f xs) (All-head (λ b. P (f b)) x xs h) (all_under P f xs (All-tail (λ b. P (f b)) x xs h))

pub joined_over : {A B : Type 0} (trace : A → Option (List Item)) (f : B → A) (xs : List B) (ys : List A) (before : Option (List (List Item))) (now : List (List Item)) → ys ≡ map f xs
    → JoinedTo before (map trace ys) now → JoinedTo before (map (λ b. trace (f b)) xs) now
joined_over trace f xs ys before now same h = subst (λ l. JoinedTo before l now) (ap (map trace) same ∙ map_twice trace f xs) h

-- those that a world gave out have heard nothing
pub all_fresh : {O : Type 0} (given : Option (List (List Item))) (trace : O → Option (List Item)) (outs : List O) → All (λ o. IsNew given (trace o)) outs → All (λ o. IsFresh (trace o)) outs
all_fresh given trace outs new = All-weaker (λ o. IsNew given (trace o)) (λ o. IsFresh (trace o)) (λ o is. new_is_fresh given (trace o) is) outs new

pub both : {O : Type 0} (P Q : O → Type 0) (outs : List O) → All P outs → All Q outs → All (λ o. P o × Q o) outs
both P Q outs p q = λ k d lt. (p k d lt, q k d lt)
