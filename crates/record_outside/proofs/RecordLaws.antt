-- The fronts of whole steps of a trace.
use Rattle.std.proofs.Common.{◌≡◌, ℕ, ◌+◌, ◌<◌, ◌≤◌, ◌∙◌, Bool, true, false, ◌||◌, inl, inr, List, [], ◌∷◌, ◌++◌, refl, sym, ap, subst, arith, length, append_assoc}
use Rattle.std.specs.List.{list_any}
use Rattle.std.proofs.lemmas.Bool.{false≢true, cases_lt}
use Rattle.std.proofs.lemmas.Bool.Decides.{nat_tests}
use Rattle.std.proofs.lemmas.Grind.{flat_map-append}
use Rattle.std.proofs.lemmas.List.{append-nil, length-append}
use Rattle.std.proofs.lemmas.List.Folds.{list_any-append}
use Rattle.host_trace.specs.declared.items.Item.{Item}
use Rattle.host_trace.specs.declared.items.Item.TheVariants.{In, Out}
use Rattle.host_trace.specs.Kinds.{is_event}
use Rattle.trace_text.specs.Spelling.{begins_with_event, ended_line, text_of}
use Rattle.record_outside.specs.Record.{IsFront, IsOver, IsRecord, IsStep, are_few, is_within}

-- ---- the limits

pub few_less : (n b m d : ℕ) → n ≤ m → b ≤ d → are_few m d ≡ true → are_few n b ≡ true
few_less n b m d le le' h = grind (arith, nat_tests)

pub few_items : (n b : ℕ) → are_few n b ≡ true → n ≤ 2048
few_items n b h = grind (arith, nat_tests)

pub few_bytes : (n b : ℕ) → are_few n b ≡ true → b ≤ 1048576
few_bytes n b h = grind (arith, nat_tests)

pub too_long : (n b : ℕ) → 1048576 < b → are_few n b ≡ false
too_long n b h = grind (arith, nat_tests)

pub text-append : (xs ys : List Item) → text_of (xs ++ ys) ≡ text_of xs ++ text_of ys
text-append xs ys = flat_map-append ended_line xs ys

pub text-length : (xs ys : List Item) → length (text_of (xs ++ ys)) ≡ length (text_of xs) + length (text_of ys)
text-length xs ys = ap length (text-append xs ys) ∙ length-append (text_of xs) (text_of ys)

pub within_front : (xs ys : List Item) → is_within (xs ++ ys) ≡ true → is_within xs ≡ true
within_front xs ys h =
    few_less (length xs) (length (text_of xs)) (length (xs ++ ys)) (length (text_of (xs ++ ys)))
    (let e = length-append xs ys in omega arith) (let e = text-length xs ys in omega arith) h

-- ---- fronts

-- two fronts of a list: the longer one begins with the shorter one
pub data Longer (xs ys xs' ys' : List Item) : Type 0 where
  Front : (mid : List Item) → xs' ≡ xs ++ mid → ys ≡ mid ++ ys' → Longer xs ys xs' ys'

longer_more : (x : Item) (xs ys xs' ys' : List Item) → Longer xs ys xs' ys' → Longer (x ∷ xs) ys (x ∷ xs') ys'
longer_more x xs ys xs' ys' (Front mid e e') = Front mid (ap (λ l. x ∷ l) e) e'

head_same : (x y : Item) (xs ys : List Item) → x ∷ xs ≡ y ∷ ys → x ≡ y
head_same x y xs ys h = cc

tail_same : (x y : Item) (xs ys : List Item) → x ∷ xs ≡ y ∷ ys → xs ≡ ys
tail_same x y xs ys h = cc

pub longer : (xs ys xs' ys' : List Item) → xs ++ ys ≡ xs' ++ ys' → length xs ≤ length xs' → Longer xs ys xs' ys'
longer [] ys xs' ys' same le = Front xs' refl same
longer (x ∷ xs) ys [] ys' same le = absurd (omega arith)
longer (x ∷ xs) ys (x' ∷ xs') ys' same le =
    subst (λ z. Longer (x ∷ xs) ys (z ∷ xs') ys') (head_same x x' (xs ++ ys) (xs' ++ ys') same)
    (longer_more x xs ys xs' ys' (longer xs ys xs' ys' (tail_same x x' (xs ++ ys) (xs' ++ ys') same) (omega arith)))

or_right : (a b : Bool) → (a || b) ≡ false → b ≡ false
or_right true b h = absurd (false≢true (sym h))
or_right false b h = h

-- behind a step's first item no rest begins with an event
no_event : (step mid more : List Item) → IsStep (mid ++ step) → 1 ≤ length mid → 1 ≤ length step → begins_with_event (step ++ more) ≡ true → ⊥
no_event step [] more is some some' begins = omega arith
no_event [] (m ∷ mid) more is some some' begins = omega arith
no_event (Out a ∷ step) (m ∷ mid) more is some some' begins = false≢true begins
no_event (In e ∷ step) (m ∷ mid) more is some some' begins =
    false≢true (sym (or_right (list_any is_event mid) (list_any is_event (In e ∷ step)) (sym (list_any-append is_event mid (In e ∷ step)) ∙ is.single)))

longer_within : (xs ys xs' ys' : List Item) → Longer xs ys xs' ys' → is_within xs' ≡ true → is_within xs ≡ true
longer_within xs ys xs' ys' (Front mid e e') h = within_front xs mid (subst (λ l. is_within l ≡ true) e h)

left_same : (xs ys zs : List Item) → xs ++ ys ≡ xs ++ zs → ys ≡ zs
left_same [] ys zs h = h
left_same (x ∷ xs) ys zs h = left_same xs ys zs (tail_same x x (xs ++ ys) (xs ++ zs) h)

-- no front of whole steps ends within a step
between : (front last more other rest : List Item) → IsStep last → begins_with_event rest ≡ true → length front < length other → length other < length (front ++ last)
    → Longer front (last ++ more) other rest → Longer other rest (front ++ last) more → ⊥
between front last more other rest is begins lt lt' (Front mid e e') (Front tail f f') =
    let here : length other ≡ length front + length mid = ap length e ∙ length-append front mid in
    let there : length (front ++ last) ≡ length other + length tail = ap length f ∙ length-append other tail in
    let same : front ++ last ≡ front ++ (mid ++ tail) = f ∙ ap (λ l. l ++ tail) e ∙ append_assoc front mid tail in
    let parts : last ≡ mid ++ tail = left_same front last (mid ++ tail) same in
    no_event tail mid more (subst IsStep parts is) (omega arith) (omega arith) (subst (λ l. begins_with_event l ≡ true) f' begins)

no_longer : (T front last more other : List Item) → T ≡ front ++ (last ++ more) → IsStep last → is_within (front ++ last) ≡ false
    → IsFront T other → is_within other ≡ true → length front < length other → ⊥
no_longer T front last more other whole is past fits within lt =
    let same : front ++ (last ++ more) ≡ other ++ fits.rest = sym whole ∙ fits.whole in
    let joined : (front ++ last) ++ more ≡ other ++ fits.rest = append_assoc front last more ∙ same in
    elim (cases_lt (length other) (length (front ++ last))) [
      | inr le ↦ false≢true (sym past ∙ longer_within (front ++ last) more other fits.rest (longer (front ++ last) more other fits.rest joined le) within)
      | inl lt' ↦ between front last more other fits.rest is fits.begins lt lt'
          (longer front (last ++ more) other fits.rest same (omega arith)) (longer other fits.rest (front ++ last) more (sym joined) (omega arith))
    ]

begins_left : (xs ys : List Item) → begins_with_event xs ≡ true → 1 ≤ length xs → begins_with_event (xs ++ ys) ≡ true
begins_left [] ys h some = absurd (omega arith)
begins_left (In e ∷ xs) ys h some = refl
begins_left (Out a ∷ xs) ys h some = absurd (false≢true h)

pub over_record : (T : List Item) (text : List ℕ) → IsOver T text → IsRecord T text
over_record T text h = record {
  items = h.front;
  front = record { rest = h.last ++ h.more; whole = h.whole; begins = begins_left h.last h.more h.is_step.begins h.some };
  within = h.within;
  spelled = h.spelled;
  longest = λ other fits within. elim (cases_lt (length h.front) (length other)) [
    | inr le ↦ le
    | inl lt ↦ absurd (no_longer T h.front h.last h.more other h.whole h.is_step h.past fits within lt)
  ];
}

front_short : (T front : List Item) → IsFront T front → length front ≤ length T
front_short T front h =
    let e : length T ≡ length front + length h.rest = ap length h.whole ∙ length-append front h.rest in omega arith

pub whole_record : (T : List Item) (text : List ℕ) → is_within T ≡ true → text ≡ text_of T → IsRecord T text
whole_record T text within spelled = record {
  items = T;
  front = record { rest = []; whole = sym (append-nil T); begins = refl };
  within = within;
  spelled = spelled;
  longest = λ other fits _. front_short T other fits;
}
