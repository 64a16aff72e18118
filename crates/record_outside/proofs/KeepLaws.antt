-- A record goes on with what is heard and done.
use Rattle.std.proofs.Common.{◌≡◌, ℕ, ◌+◌, ◌<◌, ◌≤◌, ◌∙◌, ◌&&◌, Bool, true, false, ◌||◌, inl, inr, List, [], ◌∷◌, ◌++◌, refl, sym, ap, subst, arith, length, min, not, append_assoc, Option, Result, Ok, Err}
use Rattle.std.specs.Prelude.{OnErr, OnOk, is_ok}
use Rattle.std.proofs.lemmas.Bool.{cases_Bool, false≢true}
use Rattle.std.proofs.lemmas.List.{append-nil, length-append}
use Rattle.std.proofs.lemmas.List.Folds.{list_any-append}
use Rattle.host_trace.specs.declared.items.Act.{Act}
use Rattle.host_trace.specs.declared.items.Event.{Event}
use Rattle.host_trace.specs.declared.items.Item.{Item}
use Rattle.host_trace.specs.declared.items.Item.TheVariants.{In, Out}
use Rattle.host_trace.specs.Kinds.{is_event}
use Rattle.host_trace.specs.declared.outside.Acted.{Acted}
use Rattle.host_trace.specs.declared.outside.Acted.TheVariants.{Done, NoRoom}
use Rattle.host_trace.specs.Told.{ActsOn, Added, HeardBy, Hears}
use Rattle.trace_text.specs.Spelling.{begins_with_event, ended_line, text_of}
use Rattle.record_outside.specs.declared.record.Record.{Record}
use Rattle.record_outside.specs.Record.{IsKept, IsOpen, IsOver, IsRecord, IsStep, Keeps, KeepsBy, are_few, is_within}
use Rattle.record_outside.proofs.RecordLaws.{few_bytes, few_items, text-append, text-length, too_long, whole_record, within_front}

pub begins_before : (T : List Item) (x : Item) → begins_with_event (T ++ x ∷ []) ≡ true → begins_with_event T ≡ true
begins_before [] x h = refl
begins_before (In e ∷ T) x h = refl
begins_before (Out a ∷ T) x h = h

pub over_more : (T : List Item) (text : List ℕ) (x : Item) → IsOver T text → IsOver (T ++ x ∷ []) text
over_more T text x h = record {
  front = h.front;
  last = h.last;
  more = h.more ++ x ∷ [];
  whole = ap (λ l. l ++ x ∷ []) h.whole ∙ append_assoc h.front (h.last ++ h.more) (x ∷ []) ∙ ap (λ l. h.front ++ l) (append_assoc h.last h.more (x ∷ []));
  is_step = h.is_step;
  some = h.some;
  spelled = h.spelled;
  within = h.within;
  past = h.past;
}

-- ---- what an item makes of it

-- the parts of a trace with one item more, of which the last step has it
pub record Next (T : List Item) (x : Item) (text step : List ℕ) : Type 0 where
  pub front : List Item
  pub last : List Item
  pub whole : T ++ x ∷ [] ≡ front ++ (last ++ x ∷ [])
  pub is_step : IsStep (last ++ x ∷ [])
  pub spelled : text ≡ text_of front
  pub goes_on : step ≡ text_of last
  pub within : is_within front ≡ true

some_last : (xs : List Item) (x : Item) → 1 ≤ length (xs ++ x ∷ [])
some_last xs x = let e = length-append xs (x ∷ []) in omega arith

some_none : (xs : List Item) (x : Item) (Q : Type 0) → length (xs ++ x ∷ []) ≡ 0 → Q
some_none xs x Q h = absurd (let e = some_last xs x in omega arith)

text_line : (xs : List Item) (x : Item) → text_of (xs ++ x ∷ []) ≡ text_of xs ++ ended_line x
text_line xs x = text-append xs (x ∷ []) ∙ ap (λ l. text_of xs ++ l) (append-nil (ended_line x))

next_past : (T : List Item) (x : Item) (text step : List ℕ) → Next T x text step → is_within (T ++ x ∷ []) ≡ false → IsOver (T ++ x ∷ []) text
next_past T x text step h past = record {
  front = h.front;
  last = h.last ++ x ∷ [];
  more = [];
  whole = h.whole ∙ ap (λ l. h.front ++ l) (sym (append-nil (h.last ++ x ∷ [])));
  is_step = h.is_step;
  some = some_last h.last x;
  spelled = h.spelled;
  within = h.within;
  past = subst (λ l. is_within l ≡ false) h.whole past;
}

next_open : (T : List Item) (x : Item) (text step step' : List ℕ) (count : ℕ) → Next T x text step → is_within (T ++ x ∷ []) ≡ true
    → step' ≡ step ++ ended_line x → count ≡ length (T ++ x ∷ []) → IsOpen (T ++ x ∷ []) text step' count
next_open T x text step step' count h within line counted = record {
  front = h.front;
  last = h.last ++ x ∷ [];
  whole = h.whole;
  is_step = h.is_step;
  none = some_none h.last x (h.front ≡ []);
  spelled = h.spelled;
  goes_on = line ∙ ap (λ l. l ++ ended_line x) h.goes_on ∙ sym (text_line h.last x);
  counted = counted;
  within = within;
}

-- the length of the text, by its parts
next_length : (T : List Item) (x : Item) (text step : List ℕ) → Next T x text step
    → length (text_of (T ++ x ∷ [])) ≡ length text + (length step + length (ended_line x))
next_length T x text step h =
    let a : length (text_of (T ++ x ∷ [])) ≡ length (text_of h.front) + length (text_of (h.last ++ x ∷ [])) =
    ap (λ l. length (text_of l)) h.whole ∙ text-length h.front (h.last ++ x ∷ []) in
    let b : length (text_of (h.last ++ x ∷ [])) ≡ length (text_of h.last) + length (ended_line x) =
    ap length (text_line h.last x) ∙ length-append (text_of h.last) (ended_line x) in
    let c : length text ≡ length (text_of h.front) = ap length h.spelled in
    let d : length step ≡ length (text_of h.last) = ap length h.goes_on in
    omega arith

-- the item was spelled, and by the counts all is within the limits or not
pub next_spelled : (T : List Item) (x : Item) (text step step' : List ℕ) (count count' : ℕ) (over : Bool) → Next T x text step → count ≡ length T → count ≤ 2048
    → count' ≡ min (count + 1) 4294967295 → step' ≡ step ++ ended_line x → over ≡ not (true && are_few count' (length text + length step'))
    → KeepsBy over (T ++ x ∷ []) text step' count'
next_spelled T x text step step' count count' over h counted few next line is =
    let count_is : count' ≡ length (T ++ x ∷ []) = (let e = length-append T (x ∷ []) in let m : min (count + 1) 4294967295 ≡ count + 1 = omega arith in omega arith) in
    let step_is : length step' ≡ length step + length (ended_line x) = ap length line ∙ length-append step (ended_line x) in
    let long : length text + length step' ≡ length (text_of (T ++ x ∷ [])) = (let e = next_length T x text step h in omega arith) in
    let same : are_few count' (length text + length step') ≡ is_within (T ++ x ∷ []) =
    ap (λ n. are_few n (length text + length step')) count_is ∙ ap (are_few (length (T ++ x ∷ []))) long in
    let is' : over ≡ not (is_within (T ++ x ∷ [])) = is ∙ ap not same in
    elim (cases_Bool (is_within (T ++ x ∷ []))) [
      | inl small ↦ subst (λ b. KeepsBy b (T ++ x ∷ []) text step' count') (sym (is' ∙ ap not small)) (next_open T x text step step' count' h small line count_is)
      | inr large ↦ subst (λ b. KeepsBy b (T ++ x ∷ []) text step' count') (sym (is' ∙ ap not large)) (next_past T x text step h large)
    ]

-- there was no room for it
pub next_full : (T : List Item) (x : Item) (text step step' : List ℕ) (count' room : ℕ) (over : Bool) → Next T x text step → 1048576 ≤ room
    → room < length step + length (ended_line x) → over ≡ true → KeepsBy over (T ++ x ∷ []) text step' count'
next_full T x text step step' count' room over h reserved full is =
    let past : is_within (T ++ x ∷ []) ≡ false =
    too_long (length (T ++ x ∷ [])) (length (text_of (T ++ x ∷ []))) (let e = next_length T x text step h in omega arith) in
    subst (λ b. KeepsBy b (T ++ x ∷ []) text step' count') (sym is) (next_past T x text step h past)

-- by what became of its spelling
pub next_by : {A E : Type 0} (r : Result A E) (T : List Item) (x : Item) (text step step' text_now step_now : List ℕ) (count count' room : ℕ) (spelled over : Bool) → Next T x text step
    → count ≡ length T → count ≤ 2048 → 1048576 ≤ room → spelled ≡ is_ok r → OnOk r (step' ≡ step ++ ended_line x) → OnErr r (room < length step + length (ended_line x))
    → count' ≡ min (count + 1) 4294967295 → text_now ≡ text → step_now ≡ step' → over ≡ not (spelled && are_few count' (length text + length step'))
    → KeepsBy over (T ++ x ∷ []) text_now step_now count'
next_by (Ok a) T x text step step' text_now step_now count count' room spelled over h counted few reserved was line full next same same' is =
    subst (λ t. KeepsBy over (T ++ x ∷ []) t step_now count') (sym same) (subst (λ t. KeepsBy over (T ++ x ∷ []) text t count') (sym same')
    (next_spelled T x text step step' count count' over h counted few next line (is ∙ ap (λ b. not (b && are_few count' (length text + length step'))) was)))
next_by (Err e) T x text step step' text_now step_now count count' room spelled over h counted few reserved was line full next same same' is =
    subst (λ t. KeepsBy over (T ++ x ∷ []) t step_now count') (sym same) (subst (λ t. KeepsBy over (T ++ x ∷ []) text t count') (sym same')
    (next_full T x text step step' count' room over h reserved full (is ∙ ap (λ b. not (b && are_few count' (length text + length step'))) was)))

pub opened : (b : Bool) (T : List Item) (text step : List ℕ) (count : ℕ) → b ≡ false → KeepsBy b T text step count → IsOpen T text step count
opened true T text step count h k = absurd (false≢true (sym h))
opened false T text step count h k = k

pub was_over : (b : Bool) (T : List Item) (text step : List ℕ) (count : ℕ) → b ≡ true → KeepsBy b T text step count → IsOver T text
was_over true T text step count h k = k
was_over false T text step count h k = absurd (false≢true h)

pub stays_over : (b : Bool) (T : List Item) (text step : List ℕ) (count : ℕ) (x : Item) → b ≡ true → KeepsBy b T text step count → KeepsBy b (T ++ x ∷ []) text step count
stays_over true T text step count x h k = over_more T text x k
stays_over false T text step count x h k = absurd (false≢true h)

-- ---- an event begins a step, an act goes on with one

pub next_event : (T : List Item) (e : Event) (text step text' step' : List ℕ) (count : ℕ) → IsOpen T text step count
    → text' ≡ text ++ step → step' ≡ [] → Next T (In e) text' step'
next_event T e text step text' step' count h whole none = record {
  front = T;
  last = [];
  whole = refl;
  is_step = record { begins = refl; single = refl };
  spelled = whole ∙ ap (λ l. l ++ step) h.spelled ∙ ap (λ l. text_of h.front ++ l) h.goes_on ∙ sym (text-append h.front h.last) ∙ ap text_of (sym h.whole);
  goes_on = none;
  within = h.within;
}

act_step : (a : Act) (front last : List Item) → IsStep last → (length last ≡ 0 → front ≡ []) → begins_with_event (front ++ (last ++ Out a ∷ [])) ≡ true → IsStep (last ++ Out a ∷ [])
act_step a front [] is none begins =
    absurd (false≢true (subst (λ l. begins_with_event (l ++ ([] ++ Out a ∷ [])) ≡ true) (none refl) begins))
act_step a front (In e ∷ last) is none begins = record {
  begins = refl;
  single = list_any-append is_event last (Out a ∷ []) ∙ ap (λ b. b || false) is.single;
}
act_step a front (Out b ∷ last) is none begins = absurd (false≢true is.begins)

pub next_act : (T : List Item) (a : Act) (text step : List ℕ) (count : ℕ) → IsOpen T text step count → begins_with_event (T ++ Out a ∷ []) ≡ true → Next T (Out a) text step
next_act T a text step count h begins =
    let whole : T ++ Out a ∷ [] ≡ h.front ++ (h.last ++ Out a ∷ []) = ap (λ l. l ++ Out a ∷ []) h.whole ∙ append_assoc h.front h.last (Out a ∷ []) in
    record {
      front = h.front;
      last = h.last;
      whole = whole;
      is_step = act_step a h.front h.last h.is_step h.none (subst (λ l. begins_with_event l ≡ true) whole begins);
      spelled = h.spelled;
      goes_on = h.goes_on;
      within = within_front h.front h.last (subst (λ l. is_within l ≡ true) h.whole h.within);
    }

pub open_short : (T : List Item) (text step : List ℕ) (count : ℕ) → IsOpen T text step count → length text + length step ≤ 1048576
open_short T text step count h =
    let a : length (text_of T) ≡ length (text_of h.front) + length (text_of h.last) = ap (λ l. length (text_of l)) h.whole ∙ text-length h.front h.last in
    let b : length text ≡ length (text_of h.front) = ap length h.spelled in
    let c : length step ≡ length (text_of h.last) = ap length h.goes_on in
    let d = few_bytes (length T) (length (text_of T)) h.within in
    omega arith

pub open_few : (T : List Item) (text step : List ℕ) (count : ℕ) → IsOpen T text step count → count ≤ 2048
open_few T text step count h = let d = few_items (length T) (length (text_of T)) h.within in let e = h.counted in omega arith

pub open_record : (T : List Item) (text step text' : List ℕ) (count : ℕ) → IsOpen T text step count → text' ≡ text ++ step → IsRecord T text'
open_record T text step text' count h whole =
    whole_record T text' h.within
    (whole ∙ ap (λ l. l ++ step) h.spelled ∙ ap (λ l. text_of h.front ++ l) h.goes_on ∙ sym (text-append h.front h.last) ∙ ap text_of (sym h.whole))

pub empty_open : IsOpen [] [] [] 0
empty_open = record {
  front = [];
  last = [];
  whole = refl;
  is_step = record { begins = refl; single = refl };
  none = λ _. refl;
  spelled = refl;
  goes_on = refl;
  counted = refl;
  within = refl;
}

-- ---- what is told

pub heard : (limit : ℕ) (before after : Option (List Item)) (event : Event) (r r' : Record) → Hears limit before event after → IsKept before r
    → ((T : List Item) → Keeps T r → Keeps (T ++ In event ∷ []) r') → IsKept after r'
heard limit before after event r r' told kept next = λ T here.
    let h : HeardBy limit before event T = told T here in
    subst (λ l. Keeps l r') (sym h.grew) (next h.was (kept h.was h.told))

pub done : (before after : Option (List Item)) (act : Act) (acted : Acted) (r r' : Record) → ActsOn before act acted after → acted ≡ Done → IsKept before r
    → ((T : List Item) → Keeps T r → Keeps (T ++ Out act ∷ []) r') → IsKept after r'
done before after act acted r r' told is kept next = λ T here.
    let h : Added before (act ∷ []) T = subst (λ a. ActsOn before act a after) is told T here in
    subst (λ l. Keeps l r') (sym h.grew) (next h.was (kept h.was h.told))

pub not_done : (before after : Option (List Item)) (act : Act) (acted : Acted) (r : Record) → ActsOn before act acted after → acted ≡ NoRoom → IsKept before r → IsKept after r
not_done before after act acted r told is kept = λ T here.
    let h : Added before [] T = subst (λ a. ActsOn before act a after) is told T here in
    subst (λ l. Keeps l r) (sym (h.grew ∙ append-nil h.was)) (kept h.was h.told)
