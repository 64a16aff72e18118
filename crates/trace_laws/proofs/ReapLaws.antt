-- Each child that was started is reaped once, where all is settled.
use Rattle.std.proofs.Common.{◌≡◌, ℕ, ◌+◌, ◌<◌, Bool, true, false, List, [], ◌∷◌, ◌++◌, map, refl, sym, ◌∙◌, ap, arith, subst, append-nil, append_assoc, inl, inr}
use Rattle.std.specs.Prelude.{◌==◌, ◌&&◌, ◌||◌, not, count_by, if◌then◌else◌}
use Rattle.std.specs.List.{AllByRecursion, list_all}
use Rattle.std.proofs.lemmas.Bool.{cases_lt, and_parts, eqb-true, or_cases, or_parts, false≢true, false_from_ne_true}
use Rattle.std.proofs.lemmas.List.{map-append}
use Rattle.host_base.specs.declared.site.Site.{Site}
use Rattle.host_trace.specs.declared.items.Act.{Act}
use Rattle.host_trace.specs.declared.items.Event.{Event}
use Rattle.host_trace.specs.declared.items.Event.TheVariants.{Exited, Started, StartFailed, StartFull}
use Rattle.host_trace.specs.declared.items.Item.{Item}
use Rattle.host_trace.specs.declared.items.Item.TheVariants.{In, Out}
use Rattle.host_trace.specs.Account.{all_settled, is_refusal, settled, start_refused}
use Rattle.host_trace.specs.Fits.{fits}
use Rattle.host_trace.specs.Kinds.{is_exited, is_start_answer, is_started, names_child}
use Rattle.host_trace.specs.Projections.{exited, input_ended, output_ended, start_answered, start_count, start_stands, started}
use Rattle.host_trace.specs.Trace.{after_step, steps_from}
use Rattle.host_trace.proofs.FirstLaws.{count_by-push, list_any-push}
use Rattle.own_traces.specs.Between.{Between}
use Rattle.own_traces.proofs.KeptLaws.{none-narrower}
use Rattle.own_traces.proofs.NameLaws.{started_names}
use Rattle.trace_laws.specs.Promised.{HasFitting, Promised}
use Rattle.trace_laws.proofs.ListLaws.{each_below}
use Rattle.trace_laws.proofs.PrefixLaws.{stands}

abbrev one_if : Bool → ℕ
one_if b = if b then 1 else 0

record Tally (T : List Item) : Type 0 where
  -- a child exits once at the most
  exits : (k : ℕ) → count_by (is_exited k) T ≡ one_if (exited T k)
  -- one that was started was not refused
  apart : (k : ℕ) → started T k ≡ true → start_refused T k ≡ false

-- ---- one item more

un_not : (b : Bool) → not b ≡ true → b ≡ false
un_not true is = absurd (false≢true is)
un_not false is = refl

counted : (was now : Bool) → (now ≡ true → was ≡ false) → one_if was + one_if now ≡ one_if (was || now)
counted true true first = absurd (false≢true (sym (first refl)))
counted true false first = refl
counted false true first = refl
counted false false first = refl

-- the item is no exit but one of a child that had not exited, and no answer but to a Start that had none
record IsNew (T : List Item) (x : Item) : Type 0 where
  exit : (k : ℕ) → is_exited k x ≡ true → exited T k ≡ false
  start : (k : ℕ) → is_started k x ≡ true → (start_refused T k ≡ false) × (is_refusal k x ≡ false)
  refusal : (k : ℕ) → is_refusal k x ≡ true → started T k ≡ false

tally-push : (T : List Item) (x : Item) → IsNew T x → Tally T → Tally (T ++ x ∷ [])
tally-push T x new t = record {
  exits = λ k.
      count_by-push (is_exited k) T x
      ∙ (ap (λ n. n + one_if (is_exited k x)) (t.exits k)
      ∙ (counted (exited T k) (is_exited k x) (new.exit k) ∙ ap one_if (sym (list_any-push (is_exited k) T x))));
  apart = λ k is.
      list_any-push (is_refusal k) T x
      ∙ elim (or_cases (started T k) (is_started k x) (sym (list_any-push (is_started k) T x) ∙ is)) [
        | inl old ↦ neither (start_refused T k) (is_refusal k x) (t.apart k old) (false_from_ne_true _ (λ again. false≢true (sym (new.refusal k again) ∙ old)))
        | inr now ↦ let none = new.start k now in neither (start_refused T k) (is_refusal k x) none.0 none.1
      ];
}
  where
    neither : (a b : Bool) → a ≡ false → b ≡ false → (a || b) ≡ false
    neither true b first second = absurd (false≢true (sym first))
    neither false b first second = second

-- a Start without an answer was neither started nor refused
refused_answers : (k : ℕ) (T : List Item) → start_answered T k ≡ false → start_refused T k ≡ false
refused_answers k [] none = refl
refused_answers k (x ∷ T) none =
    let parts = or_parts (is_start_answer k x) (start_answered T k) none in
    both (is_started k x) _ _ (start_refused T k) parts.0 (refused_answers k T parts.1)
  where
    both : (a b d rest : Bool) → (a || b || d) ≡ false → rest ≡ false → ((b || d) || rest) ≡ false
    both true b d rest is none = absurd (false≢true (sym is))
    both false true d rest is none = absurd (false≢true (sym is))
    both false false true rest is none = absurd (false≢true (sym is))
    both false false false rest is none = none

started_answers : (k : ℕ) (T : List Item) → start_answered T k ≡ false → started T k ≡ false
started_answers k [] none = refl
started_answers k (x ∷ T) none =
    let parts = or_parts (is_start_answer k x) (start_answered T k) none in
    both (is_started k x) _ _ (started T k) parts.0 (started_answers k T parts.1)
  where
    both : (a b d rest : Bool) → (a || b || d) ≡ false → rest ≡ false → (a || rest) ≡ false
    both true b d rest is none = absurd (false≢true (sym is))
    both false b d rest is none = none

unanswered : (T : List Item) (k d : ℕ) → (start_stands T d && not (start_answered T d)) ≡ true → (k == d) ≡ true → start_answered T k ≡ false
unanswered T k d waits same =
    subst (λ n. start_answered T n ≡ false) (sym (eqb-true k d same)) (un_not _ (and_parts (start_stands T d) (not (start_answered T d)) waits).1)

only_left : (b : Bool) → (b || false) ≡ true → b ≡ true
only_left true is = refl
only_left false is = is

event_new : (limit : ℕ) (T : List Item) (event : Event) → fits limit T event ≡ true → IsNew T (In event)
event_new limit T (Exited d) fit = record {
  exit = λ k same. subst (λ n. exited T n ≡ false) (sym (eqb-true k d same)) (un_not _ (and_parts (started T d) (not (exited T d)) fit).1);
  start = λ k same. absurd (false≢true same);
  refusal = λ k same. absurd (false≢true same);
}
event_new limit T (Started d) fit = record {
  exit = λ k same. absurd (false≢true same);
  start = λ k same. (refused_answers k T (unanswered T k d fit same), refl);
  refusal = λ k same. absurd (false≢true same);
}
event_new limit T (StartFailed d) fit = record {
  exit = λ k same. absurd (false≢true same);
  start = λ k same. absurd (false≢true same);
  refusal = λ k same. started_answers k T (unanswered T k d fit (only_left (k == d) same));
}
event_new limit T (StartFull d seen) fit = record {
  exit = λ k same. absurd (false≢true same);
  start = λ k same. absurd (false≢true same);
  refusal = λ k same. started_answers k T (unanswered T k d (and_parts (start_stands T d && not (start_answered T d)) _ fit).0 same);
}
event_new limit T _ fit = record {
  exit = λ k same. absurd (false≢true same);
  start = λ k same. absurd (false≢true same);
  refusal = λ k same. absurd (false≢true same);
}

act_new : (T : List Item) (a : Act) → IsNew T (Out a)
act_new T a = record {
  exit = λ k same. absurd (false≢true same);
  start = λ k same. absurd (false≢true same);
  refusal = λ k same. absurd (false≢true same);
}

-- ---- a step, and all of them

tally-acts : (T : List Item) (acts : List Act) → Tally T → Tally (T ++ map Out acts)
tally-acts T [] t = subst Tally (sym (append-nil T)) t
tally-acts T (a ∷ acts) t =
    subst Tally (append_assoc T (Out a ∷ []) (map Out acts)) (tally-acts (T ++ Out a ∷ []) acts (tally-push T (Out a) (act_new T a) t))

tally-step : (site : Site) (before : List Item) (event : Event) (acts : List Act) → fits site.limits.children before event ≡ true → Tally before
    → Tally (after_step before event acts)
tally-step site before event acts fit t =
    subst Tally (append_assoc before (In event ∷ []) (map Out acts))
    (tally-acts (before ++ In event ∷ []) acts (tally-push before (In event) (event_new site.limits.children before event fit) t))

after_step-push : (before : List Item) (event : Event) (acts : List Act) (a : Act) (rest : List Item) →
    after_step before event (acts ++ a ∷ []) ++ rest ≡ after_step before event acts ++ Out a ∷ rest
after_step-push before event acts a rest = simp (map-append, append_assoc)

tally-from : (site : Site) (before : List Item) (event : Event) (acts : List Act) (T : List Item) → AllByRecursion (HasFitting site) (steps_from before event acts T)
    → Tally before → Tally (after_step before event acts ++ T)
tally-from site before event acts [] fit t = subst Tally (sym (append-nil (after_step before event acts))) (tally-step site before event acts fit.0 t)
tally-from site before event acts (In e ∷ T) fit t =
    subst Tally (append_assoc (after_step before event acts) (In e ∷ []) T)
    (tally-from site (after_step before event acts) e [] T fit.1 (tally-step site before event acts fit.0 t))
tally-from site before event acts (Out a ∷ T) fit t =
    subst Tally (after_step-push before event acts a T) (tally-from site before event (acts ++ a ∷ []) T fit t)

tally-empty : Tally []
tally-empty = record { exits = λ k. refl; apart = λ k is. refl }

tally : (site : Site) (T : List Item) → Promised site T → Tally T
tally site [] f = tally-empty
tally site (In e ∷ T) f = tally-from site [] e [] T f.fit tally-empty
tally site (Out a ∷ T) f = absurd (false≢true f.good.begun)

-- ---- where all is settled

pub reaped_once : (site : Site) (T : List Item) (k : ℕ) → Promised site T → all_settled T ≡ true → started T k ≡ true → count_by (is_exited k) T ≡ 1
reaped_once site T k f all runs =
    let b : Between T = (stands site T f).between in
    let t : Tally T = tally site T f in
    let below : k < start_count T = elim (cases_lt k (start_count T)) [
      | inl lt ↦ lt
      | inr le ↦ absurd (false≢true (sym (none-narrower (is_started k) (names_child k) (started_names k) T (b.named k (omega (arith, le)))) ∙ runs))
    ] in
    let over : settled T k ≡ true = each_below (settled T) (start_count T) k (ap (list_all (settled T)) (sym b.numbers) ∙ all) below in
    elim (or_cases (start_refused T k) (exited T k && input_ended T k && output_ended T k) over) [
      | inl refused ↦ absurd (false≢true (sym (t.apart k runs) ∙ refused))
      | inr gone ↦
          let outer = and_parts (exited T k && input_ended T k) (output_ended T k) gone in
          let inner = and_parts (exited T k) (input_ended T k) outer.0 in
          t.exits k ∙ ap one_if inner.0
    ]
