-- One more item at the end of a list: what is first stays first.
use Rattle.std.proofs.Common.{◌≡◌, ℕ, suc, ◌+◌, Bool, true, false, List, [], ◌∷◌, ◌++◌, Option, Some, None, refl, sym, ◌∙◌, ap, append-nil, append_assoc, drop, length, cond, inl, inr, ltb, arith}
use Rattle.std.specs.Prelude.{count_by, ◌||◌, not, if◌then◌else◌}
use Rattle.std.specs.List.{flat_map, list_any, position, position_or_len, prefix_len, after_first}
use Rattle.std.proofs.lemmas.Grind.{fold-append, flat_map-append}
use Rattle.std.proofs.lemmas.List.Folds.{list_any-append}
use Rattle.std.proofs.lemmas.Bool.{ltb-false}
use Rattle.std.proofs.Math.ListN.{drop_of_length-le}
use Rattle.host_base.proofs.SplitLaws.{chosen}
use Rattle.host_trace.specs.First.{since, first, first_front_from, first_front, last_of, or_else}

pub flat_map-push : {X A : Type 0} (f : X → List A) (items : List X) (x : X) → flat_map f (items ++ x ∷ []) ≡ flat_map f items ++ f x
flat_map-push f items x = flat_map-append f items (x ∷ []) ∙ ap (λ more. flat_map f items ++ more) (append-nil (f x))

or_false : (b : Bool) → (b || false) ≡ b
or_false true = refl
or_false false = refl

pub list_any-push : {X : Type 0} (test : X → Bool) (items : List X) (x : X) → list_any test (items ++ x ∷ []) ≡ (list_any test items || test x)
list_any-push test items x = list_any-append test items (x ∷ []) ∙ ap (λ b. list_any test items || b) (or_false (test x))

pub count_by-push : {X : Type 0} (test : X → Bool) (items : List X) (x : X) → count_by test (items ++ x ∷ []) ≡ count_by test items + (if test x then 1 else 0)
count_by-push {X} test items x = fold-append (λ (n : ℕ) (y : X). n + (if test y then 1 else 0)) 0 items (x ∷ [])

same_either_way : {A : Type 0} (b : Bool) (a : A) → (if b then a else a) ≡ a
same_either_way true a = refl
same_either_way false a = refl

-- since the first item that passes, one more item is one more
pub since-push : {X : Type 0} (test : X → Bool) (items : List X) (x : X) →
    since test (items ++ x ∷ []) ≡ since test items ++ (if list_any test items then x ∷ [] else [])
since-push test [] x = same_either_way (test x) []
since-push test (y ∷ items) x =
    elim (test y) as (λ b. (if b then items ++ x ∷ [] else since test (items ++ x ∷ []))
    ≡ (if b then items else since test items) ++ (if b || list_any test items then x ∷ [] else [])) [
      | true ↦ refl
      | false ↦ since-push test items x
    ]

pub first-push : {X : Type 0} (test : X → Bool) (items : List X) (x : X) →
    first test (items ++ x ∷ []) ≡ or_else (first test items) (if test x then Some x else None)
first-push test [] x = refl
first-push {X} test (y ∷ items) x =
    elim (test y) as (λ b. (if b then Some y else first test (items ++ x ∷ []))
    ≡ or_else (if b then Some y else first test items) (if test x then Some x else None)) [
      | true ↦ refl
      | false ↦ first-push test items x
    ]

pub first_front_from-push : {X : Type 0} (test : List X → X → Bool) (before items : List X) (x : X) →
    first_front_from test before (items ++ x ∷ [])
    ≡ or_else (first_front_from test before items) (if test (before ++ items) x then Some ((before ++ items) ++ x ∷ []) else None)
first_front_from-push test before [] x = rw (append-nil before) refl
first_front_from-push test before (y ∷ items) x =
    elim (test before y) as (λ b. (if b then Some (before ++ y ∷ []) else first_front_from test (before ++ y ∷ []) (items ++ x ∷ []))
    ≡ or_else (if b then Some (before ++ y ∷ []) else first_front_from test (before ++ y ∷ []) items)
    (if test (before ++ y ∷ items) x then Some ((before ++ y ∷ items) ++ x ∷ []) else None)) [
      | true ↦ refl
      | false ↦
          first_front_from-push test (before ++ y ∷ []) items x
          ∙ ap (λ front. or_else (first_front_from test (before ++ y ∷ []) items) (if test front x then Some (front ++ x ∷ []) else None))
          (append_assoc before (y ∷ []) items)
    ]

-- the front that ends with the first item that passes stays, and one more item may be that item
pub first_front-push : {X : Type 0} (test : List X → X → Bool) (items : List X) (x : X) →
    first_front test (items ++ x ∷ []) ≡ or_else (first_front test items) (if test items x then Some (items ++ x ∷ []) else None)
first_front-push test items x = first_front_from-push test [] items x

-- what is first stays first
pub or_else-some : {X : Type 0} (first other : Option X) (x : X) → first ≡ Some x → or_else first other ≡ Some x
or_else-some first other x is = rw is refl

-- what comes after the first item that passes, in std's word
pub since-is : {X : Type 0} (test : X → Bool) (items : List X) → since test items ≡ after_first test items
since-is test [] = refl
since-is test (x ∷ items) =
    elim (test x) as (λ b. (if b then items else since test items) ≡ drop (cond (not b) (1 + prefix_len (λ y. not (test y)) items) 0 + 1) (x ∷ items)) [
      | true ↦ refl
      | false ↦
          let n : ℕ = prefix_len (λ y. not (test y)) items in
          let e : suc (n + 1) ≡ 1 + n + 1 = omega arith in
          since-is test items ∙ ap (λ k. drop k (x ∷ items)) e
    ]

pub since-at_position : {X : Type 0} (test : X → Bool) (items : List X) (n : ℕ) → position test items ≡ Some n → since test items ≡ drop (n + 1) items
since-at_position test items n is =
    since-is test items ∙ elim (chosen (ltb (position_or_len test items) (length items)) _ _ _ is) [
      | inl found ↦ let at : position_or_len test items ≡ n = cc in ap (λ k. drop (k + 1) items) at
      | inr none ↦ absurd (cc)
    ]

pub since-no_position : {X : Type 0} (test : X → Bool) (items : List X) → position test items ≡ None → since test items ≡ []
since-no_position test items is =
    since-is test items ∙ elim (chosen (ltb (position_or_len test items) (length items)) _ _ _ is) [
      | inl found ↦ absurd (cc)
      | inr none ↦
          let past = ltb-false _ _ none.0 in
          drop_of_length-le items (omega arith)
    ]

-- ---- what is last

or_none : {X : Type 0} (o : Option X) → o ≡ or_else o None
or_none None = refl
or_none (Some x) = refl

-- the last of a list with a first item
last_of-after : {X : Type 0} (x : X) (items : List X) → last_of (x ∷ items) ≡ or_else (last_of items) (Some x)
last_of-after x [] = refl
last_of-after x (y ∷ items) =
    let e = last_of-after y items in
    e ∙ (or_else-full (last_of items) y x ∙ ap (λ o. or_else o (Some x)) (sym e))
  where
    or_else-full : {X : Type 0} (o : Option X) (y x : X) → or_else o (Some y) ≡ or_else (or_else o (Some y)) (Some x)
    or_else-full None y x = refl
    or_else-full (Some z) y x = refl

-- what is last of what follows is last, and where nothing follows, what was
pub last_of-append : {X : Type 0} (items more : List X) → last_of (items ++ more) ≡ or_else (last_of more) (last_of items)
last_of-append [] more = or_none (last_of more)
last_of-append (x ∷ items) more =
    last_of-after x (items ++ more)
    ∙ (ap (λ o. or_else o (Some x)) (last_of-append items more)
    ∙ (or_else-twice (last_of more) (last_of items) (Some x)
    ∙ ap (or_else (last_of more)) (sym (last_of-after x items))))
  where
    or_else-twice : {X : Type 0} (a b c : Option X) → or_else (or_else a b) c ≡ or_else a (or_else b c)
    or_else-twice (Some x) b c = refl
    or_else-twice None b c = refl
