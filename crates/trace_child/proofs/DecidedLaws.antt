-- The first item that passes: what it is, and that it stays.
use Rattle.std.proofs.Common.{◌≡◌, Bool, true, false, List, [], ◌∷◌, ◌++◌, Option, Some, None, refl, sym, ◌∙◌, ap, append-nil, append_assoc, inl, inr}
use Rattle.std.specs.Prelude.{if◌then◌else◌, option_map, option_and_then}
use Rattle.std.proofs.lemmas.Bool.{cases_Bool, cond-true, cond-false}
use Rattle.host_trace.specs.declared.items.Item.{Item}
use Rattle.host_trace.specs.First.{first_front_from, first_front, last_of, or_else}
use Rattle.host_trace.specs.Decider.{Outcome}
use Rattle.host_trace.proofs.FirstLaws.{first_front-push}
use Rattle.trace_child.specs.Run.{Run}
use Rattle.trace_child.specs.Decided.{decides_run, decided_at, outcome_at, outcome_of}
use Rattle.trace_child.specs.ChildLaws.{IsFirst}

-- ---- of any test

first_front_from-append : {X : Type 0} (test : List X → X → Bool) (before items more : List X) (front : List X) →
    first_front_from test before items ≡ Some front → first_front_from test before (items ++ more) ≡ Some front
first_front_from-append test before [] more front is = absurd (cc)
first_front_from-append {X} test before (x ∷ items) more front is = elim (cases_Bool (test before x)) [
  | inl yes_it ↦ cond-true (test before x) (Some (before ++ x ∷ [])) _ yes_it ∙ (sym (cond-true (test before x) (Some (before ++ x ∷ [])) _ yes_it) ∙ is)
  | inr not_it ↦
      cond-false (test before x) (Some (before ++ x ∷ [])) _ not_it
      ∙ first_front_from-append test (before ++ x ∷ []) items more front (sym (cond-false (test before x) (Some (before ++ x ∷ [])) _ not_it) ∙ is)
]

pub first_front-append : {X : Type 0} (test : List X → X → Bool) (items more front : List X) → first_front test items ≡ Some front → first_front test (items ++ more) ≡ Some front
first_front-append test items more front is = first_front_from-append test [] items more front is

-- the item that passes, what stands before it and what follows
pub record Found {X : Type 0} (test : List X → X → Bool) (start items front : List X) : Type 0 where
  pub before : List X
  pub item : X
  pub later : List X
  pub ends : front ≡ (start ++ before) ++ item ∷ []
  pub within : items ≡ (before ++ item ∷ []) ++ later
  pub passes : test (start ++ before) item ≡ true
  pub no_earlier : first_front_from test start before ≡ None

found_at : {X : Type 0} (test : List X → X → Bool) (start : List X) (x : X) (items front : List X) → test start x ≡ true → Some (start ++ x ∷ []) ≡ Some front → Found test start (x ∷ items) front
found_at {X} test start x items front passes is = record {
  before = [];
  item = x;
  later = items;
  ends = sym (cc) ∙ ap (λ (l : List X). l ++ x ∷ []) (sym (append-nil start));
  within = refl;
  passes = ap (λ l. test l x) (append-nil start) ∙ passes;
  no_earlier = refl;
}

found_later : {X : Type 0} (test : List X → X → Bool) (start : List X) (x : X) (items front : List X) → test start x ≡ false →
    Found test (start ++ x ∷ []) items front → Found test start (x ∷ items) front
found_later {X} test start x items front fails found = record {
  before = x ∷ found.before;
  item = found.item;
  later = found.later;
  ends = found.ends ∙ ap (λ (l : List X). l ++ found.item ∷ []) (append_assoc start (x ∷ []) found.before);
  within = ap (λ (l : List X). x ∷ l) found.within;
  passes = ap (λ l. test l found.item) (sym (append_assoc start (x ∷ []) found.before)) ∙ found.passes;
  no_earlier = cond-false (test start x) (Some (start ++ x ∷ [])) _ fails ∙ found.no_earlier;
}

pub found : {X : Type 0} (test : List X → X → Bool) (start items front : List X) → first_front_from test start items ≡ Some front → Found test start items front
found test start [] front is = absurd (cc)
found test start (x ∷ items) front is = elim (cases_Bool (test start x)) [
  | inl passes ↦ found_at test start x items front passes (sym (cond-true (test start x) (Some (start ++ x ∷ [])) _ passes) ∙ is)
  | inr fails ↦ found_later test start x items front fails (found test (start ++ x ∷ []) items front (sym (cond-false (test start x) (Some (start ++ x ∷ [])) _ fails) ∙ is))
]

none_passes : {X : Type 0} (test : List X → X → Bool) (start before : List X) (x : X) (later : List X) →
    first_front_from test start (before ++ x ∷ later) ≡ None → test (start ++ before) x ≡ false
none_passes test start [] x later is = elim (cases_Bool (test start x)) [
  | inl passes ↦ absurd (none_some (sym (cond-true (test start x) (Some (start ++ x ∷ [])) _ passes) ∙ is))
  | inr fails ↦ ap (λ l. test l x) (append-nil start) ∙ fails
]
  where
    none_some : {A : Type 0} {a : A} → Some a ≡ None → ⊥
    none_some e = cc
none_passes test start (y ∷ before) x later is = elim (cases_Bool (test start y)) [
  | inl passes ↦ absurd (none_some (sym (cond-true (test start y) (Some (start ++ y ∷ [])) _ passes) ∙ is))
  | inr fails ↦
      ap (λ l. test l x) (sym (append_assoc start (y ∷ []) before))
      ∙ none_passes test (start ++ y ∷ []) before x later (sym (cond-false (test start y) (Some (start ++ y ∷ [])) _ fails) ∙ is)
]
  where
    none_some : {A : Type 0} {a : A} → Some a ≡ None → ⊥
    none_some e = cc

-- ---- of the decider

pub decided_at-push : (run : Run) (items : List Item) (x : Item) →
    decided_at run (items ++ x ∷ []) ≡ or_else (decided_at run items) (if decides_run run items x then Some (items ++ x ∷ []) else None)
decided_at-push run items x = first_front-push (decides_run run) items x

pub decided_at-stays : (run : Run) (items more front : List Item) → decided_at run items ≡ Some front → decided_at run (items ++ more) ≡ Some front
decided_at-stays run items more front is = first_front-append (decides_run run) items more front is

outcome_by_front : Run → Option (List Item) → Option Outcome
outcome_by_front run front = option_map (outcome_at run) (option_and_then last_of front)

some_front : (run : Run) (front : Option (List Item)) (outcome : Outcome) → option_map (outcome_at run) (option_and_then last_of front) ≡ Some outcome → (U : List Item) × (front ≡ Some U)
some_front run None outcome is = absurd (cc)
some_front run (Some U) outcome is = (U, refl)

pub outcome_of-stays : (run : Run) (items more : List Item) (outcome : Outcome) → outcome_of run items ≡ Some outcome → outcome_of run (items ++ more) ≡ Some outcome
outcome_of-stays run items more outcome is =
    let front = some_front run (decided_at run items) outcome is in
    ap (λ (o : Option (List Item)). option_map (outcome_at run) (option_and_then last_of o)) (decided_at-stays run items more front.0 front.1 ∙ sym front.1) ∙ is

pub is_first : (run : Run) (items front : List Item) → decided_at run items ≡ Some front → IsFirst run items front
is_first run items front is =
    let f : Found (decides_run run) [] items front = found (decides_run run) [] items front is in
    record {
      before = f.before;
      item = f.item;
      later = f.later;
      ends = f.ends;
      within = f.within ∙ ap (λ (l : List Item). l ++ f.later) (sym f.ends);
      decides = f.passes;
      no_earlier = f.no_earlier;
    }

pub none_decides : (run : Run) (before : List Item) (item : Item) (later : List Item) → decided_at run (before ++ item ∷ later) ≡ None → decides_run run before item ≡ false
none_decides run before item later is = none_passes (decides_run run) [] before item later is
