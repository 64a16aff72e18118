-- What stands of the children of the exchange that goes on, at each place of a connection's items that are good.
use Rattle.std.proofs.Common.{◌≡◌, ◌≤◌, ℕ, zero, suc, Bool, true, false, List, [], ◌∷◌, ◌++◌, map, None, refl, sym, ◌∙◌, ap, subst, append-nil, append_assoc, inl, inr}
use Rattle.std.specs.Prelude.{◌==◌, ◌||◌, ◌&&◌, not, ◌⊎◌}
use Rattle.std.specs.List.{AllByRecursion, list_any}
use Rattle.std.proofs.lemmas.Bool.{cases_Bool, or_cases, or_left, or_right, or_parts, and_parts, eqb-true, eq-eqb, false≢true, cond-true, cond-false}
use Rattle.std.proofs.lemmas.List.{map-append}
use Rattle.host_base.specs.declared.launch.Launch.{Launch}
use Rattle.host_base.specs.declared.site.Site.{Site}
use Rattle.host_trace.specs.declared.items.Act.{Act}
use Rattle.host_trace.specs.declared.items.Act.TheVariants.{Start}
use Rattle.host_trace.specs.declared.items.Event.{Event}
use Rattle.host_trace.specs.declared.items.Event.TheVariants.{Stop}
use Rattle.host_trace.specs.declared.items.Item.{Item}
use Rattle.host_trace.specs.declared.items.Item.TheVariants.{In, Out}
use Rattle.host_trace.specs.Account.{has_unsettled, settled}
use Rattle.host_trace.specs.Kinds.{child_started, is_stop}
use Rattle.host_trace.specs.Projections.{children, shut, start_stands, stopped, upgraded}
use Rattle.host_trace.specs.Trace.{Step, step_of, after_step, end_of, steps_from}
use Rattle.host_trace.proofs.ProjectionLaws.{children-push, stopped-push}
use Rattle.own_traces.specs.Whose.{has}
use Rattle.trace_child.specs.Words.{is_filled}
use Rattle.trace_model.specs.Answer.{Stage, rejected, interrupted, unready, refused, welcomed, unstarted, running, broken_off, answered, legs, stage}
use Rattle.trace_model.specs.Breaks.{broken}
use Rattle.trace_model.specs.Demands.{has_room, is_welcomed, may_go_on}
use Rattle.trace_model.specs.Exchange.{Exchange, first_exchange, pushed, all_of, has_start}
use Rattle.trace_model.specs.Exchanges.{current, current_after, following, has_ended, next_by, next_of}
use Rattle.trace_model.specs.Good.{StepGood}
use Rattle.trace_model.specs.Launches.{is_launch, is_right_start, launch_at}
use Rattle.trace_model.specs.Legs.{Leg}
use Rattle.trace_model.specs.Steps.{each_act_from}
use Rattle.trace_model.proofs.AnswerLaws.{Grow, unbroken-push, walk-push}
use Rattle.trace_model.proofs.ExchangeLaws.{current-append, current-push}
use Rattle.trace_laws.proofs.ListLaws.{has-append, start_stands_of, unsettled-left, settled-left}
use Rattle.trace_laws.proofs.StartLaws.{has_leg, is_at, is_welcome, broken-act, start_leads, unbroken_at, unbroken_welcome, welcome_leads}

-- Stop stands behind the Start of k
pub record IsStopped (items : List Item) (k : ℕ) : Type 0 where
  pub before : List Item
  pub later : List Item
  pub stands : items ≡ before ++ In Stop ∷ later
  pub started_before : start_stands before k ≡ true

pub record Runs (site : Site) (c : ℕ) (e : Exchange) : Type 0 where
  -- nothing broke the request of a child
  pub unbroken : has_start c e ≡ true → broken site c e ≡ None
  -- each child is that of a leg
  pub legs_have : (k : ℕ) → has (children e.items c) k ≡ true → has_leg (legs site c e) k ≡ true
  -- one at the most is not settled
  pub one : (k m : ℕ) → has (children e.items c) k ≡ true → has (children e.items c) m ≡ true → settled e.items k ≡ false → settled e.items m ≡ false → k ≡ m
  -- none was started after Stop
  pub stops : stopped (all_of e) ≡ true → (k : ℕ) → has (children e.items c) k ≡ true → IsStopped e.items k

-- ---- without a child

none_has : {X : Type 0} (ks : List ℕ) (k : ℕ) → ks ≡ [] → has ks k ≡ true → X
none_has ks k none is = absurd (false≢true (sym (ap (λ l. has l k) none) ∙ is))

runs_none : (site : Site) (c : ℕ) (e : Exchange) → children e.items c ≡ [] → Runs site c e
runs_none site c e none = record {
  unbroken = λ begun. absurd (false≢true (sym (ap (λ ks. is_filled ks) none) ∙ begun));
  legs_have = λ k is. none_has (children e.items c) k none is;
  one = λ k m is also unsettled never. none_has (children e.items c) k none is;
  stops = λ stop k is. none_has (children e.items c) k none is;
}

no_start : (ks : List ℕ) → is_filled ks ≡ false → ks ≡ []
no_start [] is = refl
no_start (k ∷ ks) is = absurd (false≢true (sym is))

-- ---- legs that grow

grows_have : (was now : List Leg) (k : ℕ) → Grow was now → has_leg was k ≡ true → has_leg now k ≡ true
grows_have [] now k grow is = absurd (false≢true is)
grows_have (leg ∷ was) [] k grow is = absurd grow
grows_have (leg ∷ was) (later ∷ now) k grow is = elim (or_cases (leg.child == k) (has_leg was k) is) [
  | inl here ↦ or_left (later.child == k) (has_leg now k) (ap (λ (n : ℕ). n == k) grow.0.child ∙ here)
  | inr behind ↦ or_right (later.child == k) (has_leg now k) (grows_have was now k grow.1 behind)
]

-- ---- Stop

stop_is : (x : Item) → is_stop x ≡ true → x ≡ In Stop
stop_is (In Stop) is = refl
stop_is _ is = absurd (false≢true is)

all_of-push : (e : Exchange) (x : Item) → all_of (pushed e x) ≡ all_of e ++ x ∷ []
all_of-push e x = sym (append_assoc e.before e.items (x ∷ []))

stopped_with : (items : List Item) (x : Item) (k : ℕ) → IsStopped items k → IsStopped (items ++ x ∷ []) k
stopped_with items x k s = record {
  before = s.before;
  later = s.later ++ x ∷ [];
  stands = ap (λ (l : List Item). l ++ x ∷ []) s.stands ∙ append_assoc s.before (In Stop ∷ s.later) (x ∷ []);
  started_before = s.started_before;
}

-- ---- one item more

-- it starts no child of c
runs_plain : (site : Site) (c : ℕ) (e : Exchange) (x : Item) → 2 ≤ site.limits.head → child_started c x ≡ [] → Runs site c e → Runs site c (pushed e x)
runs_plain site c e x two plain r =
    let same : children (e.items ++ x ∷ []) c ≡ children e.items c =
    children-push e.items x c ∙ (ap (λ ks. children e.items c ++ ks) plain ∙ append-nil (children e.items c)) in
    elim (cases_Bool (has_start c e)) [
      | inr none ↦ runs_none site c (pushed e x) (same ∙ no_start (children e.items c) none)
      | inl begun ↦
          let was : (k : ℕ) → has (children (e.items ++ x ∷ []) c) k ≡ true → has (children e.items c) k ≡ true = λ k is. ap (λ ks. has ks k) (sym same) ∙ is in
          let unbroken : broken site c e ≡ None = r.unbroken begun in
          record {
            unbroken = λ now. unbroken-push site c e x begun unbroken;
            legs_have = λ k is. grows_have (legs site c e) (legs site c (pushed e x)) k (walk-push site c e x two begun unbroken).legs (r.legs_have k (was k is));
            one = λ k m is also unsettled never.
                r.one k m (was k is) (was m also) (unsettled-left e.items (x ∷ []) k unsettled) (unsettled-left e.items (x ∷ []) m never);
            stops = λ stop k is. elim (or_cases (stopped (all_of e)) (is_stop x) (sym (stopped-push (all_of e) x) ∙ (ap stopped (sym (all_of-push e x)) ∙ stop))) [
              | inl before ↦ stopped_with e.items x k (r.stops before k (was k is))
              | inr now ↦ record {
                before = e.items;
                later = [];
                stands = ap (λ (y : Item). e.items ++ y ∷ []) (stop_is x now);
                started_before = start_stands_of c e.items k (was k is);
              }
            ];
          }
    ]

-- ---- the Start that is due

un_not : (b : Bool) → not b ≡ true → b ≡ false
un_not true is = absurd (false≢true is)
un_not false is = refl

not_un : (b : Bool) → not b ≡ false → b ≡ true
not_un true is = refl
not_un false is = absurd (false≢true (sym is))

due_of : (site : Site) (c : ℕ) (e : Exchange) (hop : ℕ) (launch : Launch) (s : Stage) → is_launch launch (launch_at site c e hop s) ≡ true
    → (is_at hop s ≡ true) ⊎ ((hop ≡ 0) × (is_welcome s ≡ true) × (has_start c e ≡ false))
due_of site c e hop launch (unstarted h request mapped) is = elim (cases_Bool (hop == h)) [
  | inl here ↦ inl here
  | inr other ↦ absurd (false≢true (sym (ap (is_launch launch) (cond-false (hop == h) _ None other)) ∙ is))
]
due_of site c e zero launch (welcomed value request mapped) is =
    let may = is_welcomed site c e (welcomed value request mapped) && upgraded e.items c && not (has_start c e) in
    elim (cases_Bool may) [
      | inl may_be ↦ inr (refl, refl, un_not (has_start c e) (and_parts (is_welcomed site c e (welcomed value request mapped) && upgraded e.items c) (not (has_start c e)) may_be).1)
      | inr may_not ↦ absurd (false≢true (sym (ap (is_launch launch) (cond-false may _ None may_not)) ∙ is))
    ]
due_of site c e (suc hop) launch (welcomed value request mapped) is = absurd (false≢true is)
due_of site c e hop launch (rejected cause) is = absurd (false≢true is)
due_of site c e hop launch (interrupted cause) is = absurd (false≢true is)
due_of site c e hop launch unready is = absurd (false≢true is)
due_of site c e hop launch (refused cause) is = absurd (false≢true is)
due_of site c e hop launch (running leg) is = absurd (false≢true is)
due_of site c e hop launch (broken_off leg cause stood) is = absurd (false≢true is)
due_of site c e hop launch (answered leg output) is = absurd (false≢true is)

pub record IsRight (site : Site) (c : ℕ) (e : Exchange) (j hop : ℕ) : Type 0 where
  pub number : j ≡ e.number
  pub due : (is_at hop (stage site c e) ≡ true) ⊎ ((hop ≡ 0) × (is_welcome (stage site c e) ≡ true) × (has_start c e ≡ false))
  pub settled_then : has_unsettled e.items c ≡ false
  pub going : stopped (all_of e) ≡ false
  pub unshut : shut (all_of e) c ≡ false

pub right_of : (site : Site) (c : ℕ) (e : Exchange) (k d j hop : ℕ) (launch : Launch) → is_right_start site c e (Start k d j hop launch) ≡ true → IsRight site c e j hop
right_of site c e k d j hop launch is =
    let a = and_parts _ (not (shut (all_of e) c)) is in
    let b = and_parts _ (not (stopped (all_of e))) a.0 in
    let f = and_parts _ (not e.closed) b.0 in
    let g = and_parts _ (may_go_on c e) f.0 in
    let h = and_parts (j == e.number) (is_launch launch (launch_at site c e hop (stage site c e))) g.0 in
    record {
      number = eqb-true j e.number h.0;
      due = due_of site c e hop launch (stage site c e) h.1;
      settled_then = un_not _ (and_parts (has_room c (all_of e)) (not (has_unsettled e.items c)) g.1).1;
      going = un_not _ b.1;
      unshut = un_not _ a.1;
    }

-- where none is unsettled each is settled
pub each_settled : (T : List Item) (ks : List ℕ) (m : ℕ) → list_any (λ k. not (settled T k)) ks ≡ false → has ks m ≡ true → settled T m ≡ true
each_settled T [] m none is = absurd (false≢true is)
each_settled T (k ∷ ks) m none is =
    let parts = or_parts (not (settled T k)) (list_any (λ j. not (settled T j)) ks) none in
    elim (or_cases (k == m) (has ks m) is) [
      | inl same ↦ subst (λ n. settled T n ≡ true) (eqb-true k m same) (not_un (settled T k) parts.0)
      | inr later ↦ each_settled T ks m parts.1 later
    ]

filled_by : (ks : List ℕ) (m : ℕ) → has ks m ≡ true → is_filled ks ≡ true
filled_by [] m is = absurd (false≢true is)
filled_by (k ∷ ks) m is = refl

no_children : (c : ℕ) (e : Exchange) → has_start c e ≡ false → children e.items c ≡ []
no_children c e none = no_start (children e.items c) none

module _ (site : Site) (c : ℕ) (e : Exchange) (k hop : ℕ) (launch : Launch) (two : 2 ≤ site.limits.head) (r : Runs site c e) (right : IsRight site c e e.number hop) where
  abbrev start : Item
  start = Out (Start k c e.number hop launch)

  more : children (e.items ++ start ∷ []) c ≡ children e.items c ++ k ∷ []
  more =
      children-push e.items start c
      ∙ ap (λ ks. children e.items c ++ ks) (cond-true (c == c) (k ∷ []) [] (eq-eqb c c refl))

  old_or_new : (m : ℕ) → has (children (e.items ++ start ∷ []) c) m ≡ true → (has (children e.items c) m ≡ true) ⊎ (k ≡ m)
  old_or_new m is = elim (or_cases (has (children e.items c) m) (has (k ∷ []) m) (sym (has-append (children e.items c) (k ∷ []) m) ∙ (ap (λ ks. has ks m) (sym more) ∙ is))) [
    | inl old ↦ inl old
    | inr new ↦ elim (or_cases (k == m) false new) [ inl same ↦ inr (eqb-true k m same) | inr not_it ↦ absurd (false≢true not_it) ]
  ]

  unbroken_then : broken site c e ≡ None
  unbroken_then = elim right.due [
    | inl at ↦ unbroken_at site c e hop at
    | inr welcome ↦ unbroken_welcome site c e welcome.1
  ]

  new_leg : has_leg (legs site c (pushed e start)) k ≡ true
  new_leg = elim right.due [
    | inl at ↦ start_leads site c e hop k launch at
    | inr welcome ↦
        subst (λ h. has_leg (legs site c (pushed e (Out (Start k c e.number h launch)))) k ≡ true) (sym welcome.0)
        (welcome_leads site c e k launch (no_children c e welcome.2) welcome.1)
  ]

  old_settled : (m : ℕ) → has (children e.items c) m ≡ true → settled (e.items ++ start ∷ []) m ≡ true
  old_settled m is = settled-left e.items (start ∷ []) m (each_settled e.items (children e.items c) m right.settled_then is)

  runs_start : Runs site c (pushed e start)
  runs_start = record {
    unbroken = λ now. broken-act site c e k c e.number hop launch ∙ unbroken_then;
    legs_have = λ m is. elim (old_or_new m is) [
      | inl old ↦
          grows_have (legs site c e) (legs site c (pushed e start)) m
          (walk-push site c e start two (filled_by (children e.items c) m old) unbroken_then).legs (r.legs_have m old)
      | inr new ↦ subst (λ n. has_leg (legs site c (pushed e start)) n ≡ true) new new_leg
    ];
    one = λ m n is also unsettled never. elim (old_or_new m is) [
      | inl old ↦ absurd (false≢true (sym unsettled ∙ old_settled m old))
      | inr new ↦ elim (old_or_new n also) [
        | inl old ↦ absurd (false≢true (sym never ∙ old_settled n old))
        | inr new' ↦ sym new ∙ new'
      ]
    ];
    stops = λ stop m is.
        let not_now : stopped (all_of (pushed e start)) ≡ false =
        ap stopped (all_of-push e start) ∙ (stopped-push (all_of e) start ∙ or_nothing (stopped (all_of e)) right.going) in
        absurd (false≢true (sym not_now ∙ stop));
  }
    where
      or_nothing : (b : Bool) → b ≡ false → (b || false) ≡ false
      or_nothing true is = absurd (false≢true (sym is))
      or_nothing false is = refl

-- ---- an act, and an event

runs_act : (site : Site) (c : ℕ) (e : Exchange) (a : Act) → 2 ≤ site.limits.head → is_right_start site c e a ≡ true → Runs site c e → Runs site c (pushed e (Out a))
runs_act site c e (Start k d j hop launch) two is r =
    let right = right_of site c e k d j hop launch is in
    elim (cases_Bool (c == d)) [
      | inr other ↦ runs_plain site c e (Out (Start k d j hop launch)) two (cond-false (c == d) (k ∷ []) [] other) r
      | inl mine ↦
          subst (λ n. Runs site c (pushed e (Out (Start k n j hop launch)))) (eqb-true c d mine)
          (subst (λ n. Runs site c (pushed e (Out (Start k c n hop launch)))) (sym right.number)
          (runs_start site c e k hop launch two r (record { number = refl; due = right.due; settled_then = right.settled_then; going = right.going; unshut = right.unshut })))
    ]
runs_act site c e _ two is r = runs_plain site c e _ two refl r

runs_next : (site : Site) (c : ℕ) (e : Exchange) (x : Item) → Runs site c (pushed e x) → Runs site c (next_of site c e x)
runs_next site c e x r = go (has_ended site c (pushed e x))
  where
    go : (b : Bool) → Runs site c (next_by site c (pushed e x) b)
    go true = runs_none site c (following site c (pushed e x)) refl
    go false = r

runs_event : (site : Site) (c : ℕ) (e : Exchange) (event : Event) → 2 ≤ site.limits.head → Runs site c e → Runs site c (next_of site c e (In event))
runs_event site c e event two r = runs_next site c e (In event) (runs_plain site c e (In event) two refl r)

runs_acts : (site : Site) (c : ℕ) (e : Exchange) (acts : List Act) → 2 ≤ site.limits.head → each_act_from site c (is_right_start site c) e acts ≡ true → Runs site c e
    → Runs site c (current_after site c e (map Out acts))
runs_acts site c e [] two right r = r
runs_acts site c e (a ∷ acts) two right r =
    let parts = and_parts (is_right_start site c e a) (each_act_from site c (is_right_start site c) (next_of site c e (Out a)) acts) right in
    runs_acts site c (next_of site c e (Out a)) acts two parts.1 (runs_next site c e (Out a) (runs_act site c e a two parts.0 r))

-- ---- a step, and all of them

runs_step : (site : Site) (c : ℕ) (before : List Item) (event : Event) (acts : List Act) → 2 ≤ site.limits.head → StepGood site c (step_of before event acts)
    → Runs site c (current site c before) → Runs site c (current site c (after_step before event acts))
runs_step site c before event acts two good r =
    let heard : Runs site c (current site c (before ++ In event ∷ [])) =
    subst (Runs site c) (sym (current-push site c before (In event))) (runs_event site c (current site c before) event two r) in
    subst (Runs site c)
    (sym (current-append site c (before ++ In event ∷ []) (map Out acts)) ∙ ap (current site c) (append_assoc before (In event ∷ []) (map Out acts)))
    (runs_acts site c (current site c (before ++ In event ∷ [])) acts two good.good.launches heard)

-- what stands at the end of a connection's items, and the step that ends there
pub record AtEnd (site : Site) (c : ℕ) (L : List Item) : Type 0 where
  pub runs : Runs site c (current site c L)
  pub step : Step
  pub good : StepGood site c step
  pub ends : end_of step ≡ L

after_step-push : (before : List Item) (event : Event) (acts : List Act) (a : Act) (rest : List Item) →
    after_step before event (acts ++ a ∷ []) ++ rest ≡ after_step before event acts ++ Out a ∷ rest
after_step-push before event acts a rest = simp (map-append, append_assoc)

end_from : (site : Site) (c : ℕ) (before : List Item) (event : Event) (acts : List Act) (L : List Item) → 2 ≤ site.limits.head
    → AllByRecursion (StepGood site c) (steps_from before event acts L) → Runs site c (current site c before) → AtEnd site c (after_step before event acts ++ L)
end_from site c before event acts [] two good r =
    subst (AtEnd site c) (sym (append-nil (after_step before event acts)))
    (record { runs = runs_step site c before event acts two good.0 r; step = step_of before event acts; good = good.0; ends = refl })
end_from site c before event acts (In e ∷ L) two good r =
    subst (AtEnd site c) (append_assoc (after_step before event acts) (In e ∷ []) L)
    (end_from site c (after_step before event acts) e [] L two good.1 (runs_step site c before event acts two good.0 r))
end_from site c before event acts (Out a ∷ L) two good r =
    subst (AtEnd site c) (after_step-push before event acts a L) (end_from site c before event (acts ++ a ∷ []) L two good r)

pub at_end : (site : Site) (c : ℕ) (event : Event) (L : List Item) → 2 ≤ site.limits.head → AllByRecursion (StepGood site c) (steps_from [] event [] L)
    → AtEnd site c (In event ∷ L)
at_end site c event L two good = end_from site c [] event [] L two good (runs_none site c first_exchange refl)
