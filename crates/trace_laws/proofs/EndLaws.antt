-- Where Stop stands and every started child has exited, every child is settled; and a connection has one at the most that
-- is not.
use Rattle.std.proofs.Common.{◌≡◌, ◌<◌, ◌≤◌, ℕ, Bool, true, false, List, [], ◌∷◌, ◌++◌, Option, Some, None, refl, sym, ◌∙◌, ap, arith, subst, append_assoc, inl, inr}
use Rattle.std.specs.Prelude.{◌==◌, ◌||◌, ◌⊎◌, is_some}
use Rattle.std.specs.List.{AllByRecursion, flat_map, list_all, list_any}
use Rattle.std.proofs.lemmas.Bool.{cases_Bool, or_cases, or_left, or_parts, or_right, and_from, eqb-true, lt-ltb, false≢true}
use Rattle.std.proofs.lemmas.List.Folds.{list_any-append}
use Rattle.host_base.specs.declared.site.Site.{Site}
use Rattle.host_trace.specs.declared.items.Act.TheVariants.{Start}
use Rattle.host_trace.specs.declared.items.Event.TheVariants.{Stop}
use Rattle.host_trace.specs.declared.items.Item.{Item}
use Rattle.host_trace.specs.declared.items.Item.TheVariants.{In, Out}
use Rattle.host_trace.specs.Account.{all_settled, has_unsettled, is_refusal, settled, start_refused}
use Rattle.host_trace.specs.Kinds.{is_accepted, is_exited, is_start_answer, is_start_failed, is_start_full, is_started, names_child}
use Rattle.host_trace.specs.Projections.{accepted_count, children, exited, own, start_answered, start_count, started, stopped}
use Rattle.host_trace.specs.Trace.{Step, end_of}
use Rattle.own_traces.specs.Between.{Between, Owner}
use Rattle.own_traces.specs.Whose.{has}
use Rattle.own_traces.proofs.KeptLaws.{any-kept, none-narrower}
use Rattle.own_traces.proofs.NameLaws.{exit_names, started_names}
use Rattle.own_traces.proofs.SameLaws.{children-own, settled-own, stopped-own}
use Rattle.trace_child.specs.Decided.{decided_at, decides_run, is_decided}
use Rattle.trace_child.specs.Run.{Run}
use Rattle.trace_child.specs.Words.{implies}
use Rattle.trace_child.proofs.ChildRules.{settled_at_exit}
use Rattle.trace_child.proofs.DecidedLaws.{none_decides}
use Rattle.trace_child.proofs.WordLaws.{implied}
use Rattle.trace_model.specs.Answer.{legs}
use Rattle.trace_model.specs.Children.{LegGood, LegsGood}
use Rattle.trace_model.specs.Demands.{has_room}
use Rattle.trace_model.specs.Exchange.{Exchange, all_of}
use Rattle.trace_model.specs.Exchanges.{current, ended, ends_by, has_ended}
use Rattle.trace_model.specs.Good.{GoodFor, begins_with_event}
use Rattle.trace_model.specs.Legs.{Leg, run_of}
use Rattle.trace_model.specs.Steps.{ended_in, goes_on, heard_of}
use Rattle.trace_model.proofs.ExchangeLaws.{Ended, all_of-current, ended-all, items-exchanges}
use Rattle.trace_laws.specs.TraceLaws.{all_answered, all_exited}
use Rattle.trace_laws.specs.Promised.{Promised}
use Rattle.trace_laws.proofs.ListLaws.{HasStart, has_start_of, all_below, children-append, each_below, has-append, settled-left, settled-right, unsettled-right}
use Rattle.trace_laws.proofs.PrefixLaws.{StartsFirst, stands}
use Rattle.trace_laws.proofs.StartLaws.{has_leg}
use Rattle.trace_laws.proofs.CurrentLaws.{AtEnd, IsStopped, at_end, each_settled}

-- ---- the exchanges that ended

ended_settled : (site : Site) (c : ℕ) (e : Exchange) (k : ℕ) → has_ended site c e ≡ true → has (children e.items c) k ≡ true → settled e.items k ≡ true
ended_settled site c e k over is = go (has_unsettled e.items c) refl over
  where
    go : (b : Bool) → has_unsettled e.items c ≡ b → ends_by site c e b ≡ true → settled e.items k ≡ true
    go true unsettled ends = absurd (false≢true ends)
    go false none ends = each_settled e.items (children e.items c) k none is

all_ended_settled : (site : Site) (c : ℕ) (es : List Exchange) (k : ℕ) → AllByRecursion (Ended site c) es
    → has (children (flat_map (λ (e : Exchange). e.items) es) c) k ≡ true → settled (flat_map (λ (e : Exchange). e.items) es) k ≡ true
all_ended_settled site c [] k all is = absurd (false≢true is)
all_ended_settled site c (e ∷ es) k all is =
    let rest = flat_map (λ (d : Exchange). d.items) es in
    elim (or_cases (has (children e.items c) k) (has (children rest c) k)
    (sym (has-append (children e.items c) (children rest c) k) ∙ (ap (λ ks. has ks k) (sym (children-append e.items rest c)) ∙ is))) [
      | inl here ↦ settled-left e.items rest k (ended_settled site c e k all.0 here)
      | inr later ↦ settled-right e.items rest k (all_ended_settled site c es k all.1 later)
    ]

-- a child of a connection is settled, or it is of the exchange that goes on
pub either : (site : Site) (c : ℕ) (L : List Item) (k : ℕ) → has (children L c) k ≡ true
    → (settled L k ≡ true) ⊎ (has (children (current site c L).items c) k ≡ true)
either site c L k is =
    let old = flat_map (λ (e : Exchange). e.items) (ended site c L) in
    let now = (current site c L).items in
    let cut : old ++ now ≡ L = items-exchanges site c L in
    elim (or_cases (has (children old c) k) (has (children now c) k)
    (sym (has-append (children old c) (children now c) k) ∙ (ap (λ ks. has ks k) (sym (children-append old now c)) ∙ (ap (λ (l : List Item). has (children l c) k) cut ∙ is)))) [
      | inl before ↦ inl (subst (λ l. settled l k ≡ true) cut (settled-left old now k (all_ended_settled site c (ended site c L) k (ended-all site c L) before)))
      | inr here ↦ inr here
    ]

-- what is not settled in a connection's items is not in those of the exchange that goes on
unsettled_now : (site : Site) (c : ℕ) (L : List Item) (k : ℕ) → settled L k ≡ false → settled (current site c L).items k ≡ false
unsettled_now site c L k is =
    unsettled-right (current site c L).before (current site c L).items k (ap (λ (l : List Item). settled l k) (all_of-current site c L) ∙ is)

-- ---- a connection of the trace

two_bytes : (site : Site) {T : List Item} → Promised site T → 2 ≤ site.limits.head
two_bytes site f = let range = f.limits.head.0 in omega (arith, range)

record Connected (site : Site) (T : List Item) (c : ℕ) : Type 0 where
  between : Between T
  first : StartsFirst c (own T c)
  end : AtEnd site c (own T c)

-- a list that begins with an event, and is not empty, ends with a step
end_of_own : (site : Site) (c : ℕ) (L : List Item) → 2 ≤ site.limits.head → begins_with_event L ≡ true → ((L ≡ []) → ⊥) → GoodFor site c L → AtEnd site c L
end_of_own site c [] two begins some good = absurd (some refl)
end_of_own site c (In event ∷ L) two begins some good = at_end site c event L two good
end_of_own site c (Out a ∷ L) two begins some good = absurd (false≢true begins)

connected : (site : Site) (T : List Item) (c : ℕ) → Promised site T → c < accepted_count T → Connected site T c
connected site T c f known =
    let s = stands site T f in
    record {
      between = s.between;
      first = s.first c;
      end = end_of_own site c (own T c) (two_bytes site f) (s.begins c)
          (λ none. false≢true (ap (list_any is_accepted) (sym none) ∙ (s.between.accepts c ∙ lt-ltb c (accepted_count T) known)))
          (f.good.connections c (lt-ltb c (accepted_count T) known));
    }

pub owner_known : (T : List Item) (c k : ℕ) → Between T → has (children T c) k ≡ true → c < accepted_count T
owner_known T c k b is =
    let o : Owner T k = b.owned k (b.below c k is) in
    subst (λ d. d < accepted_count T) (b.apart o.owner c k o.is is) o.known

-- ---- one child at the most

pub one_unsettled : (site : Site) (T : List Item) (c k m : ℕ) → Promised site T → has (children T c) k ≡ true → has (children T c) m ≡ true
    → settled T k ≡ false → settled T m ≡ false → k ≡ m
one_unsettled site T c k m f is also unsettled never =
    let s = stands site T f in
    let conn = connected site T c f (owner_known T c k s.between is) in
    let L = own T c in
    let in_own : (n : ℕ) → has (children T c) n ≡ true → has (children L c) n ≡ true = λ n h. ap (λ ks. has ks n) (children-own T c s.between) ∙ h in
    let not_own : (n : ℕ) → has (children T c) n ≡ true → settled T n ≡ false → settled L n ≡ false = λ n h no. settled-own T c n s.between h ∙ no in
    let now : (n : ℕ) → has (children T c) n ≡ true → settled T n ≡ false → has (children (current site c L).items c) n ≡ true =
    λ n h no. elim (either site c L n (in_own n h)) [
      | inl over ↦ absurd (false≢true (sym (not_own n h no) ∙ over))
      | inr here ↦ here
    ] in
    conn.end.runs.one k m (now k is unsettled) (now m also never) (unsettled_now site c L k (not_own k is unsettled)) (unsettled_now site c L m (not_own m also never))

-- ---- the leg of a child

record LegOf (site : Site) (c : ℕ) (s : Step) (e : Exchange) (k : ℕ) : Type 0 where
  leg : Leg
  child : leg.child ≡ k
  good : LegGood site c s e leg

leg_among : (site : Site) (c : ℕ) (s : Step) (e : Exchange) (k : ℕ) (ls : List Leg) → AllByRecursion (LegGood site c s e) ls → has_leg ls k ≡ true → LegOf site c s e k
leg_among site c s e k [] all is = absurd (false≢true is)
leg_among site c s e k (leg ∷ ls) all is = elim (or_cases (leg.child == k) (has_leg ls k) is) [
  | inl here ↦ record { leg = leg; child = eqb-true leg.child k here; good = all.0 }
  | inr later ↦ leg_among site c s e k ls all.1 later
]

last_all : (P : Exchange → Type 0) (es : List Exchange) (e : Exchange) → AllByRecursion P (es ++ e ∷ []) → P e
last_all P [] e all = all.0
last_all P (d ∷ es) e all = last_all P es e all.1

-- its run is decided, where Stop stands behind its Start
decided_by_stop : (run : Run) (items : List Item) → IsStopped items run.child → is_decided run items ≡ true
decided_by_stop run items s = go (decided_at run items) refl
  where
    go : (o : Option (List Item)) → decided_at run items ≡ o → is_some o ≡ true
    go (Some front) is = refl
    go None is =
        let none : decides_run run s.before (In Stop) ≡ false = none_decides run s.before (In Stop) s.later (ap (decided_at run) (sym s.stands) ∙ is) in
        absurd (false≢true (sym none ∙ and_from _ _ s.started_before refl))

-- ---- all is settled

-- what names a child stands in the exchange of its Start, where none stands before
in_exchange : (c : ℕ) (e : Exchange) (k : ℕ) (test : Item → Bool) → ((x : Item) → names_child k x ≡ false → test x ≡ false) → StartsFirst c (all_of e)
    → has (children e.items c) k ≡ true → list_any test (all_of e) ≡ true → list_any test e.items ≡ true
in_exchange c e k test narrower first is some =
    let s : HasStart c e.items k = has_start_of c e.items k is in
    let none : list_any (names_child k) (e.before ++ s.before) ≡ false =
    first k s.exchange s.hop s.launch (e.before ++ s.before) s.later
    (ap (λ (l : List Item). e.before ++ l) s.stands ∙ sym (append_assoc e.before s.before (Out (Start k c s.exchange s.hop s.launch) ∷ s.later))) in
    elim (or_cases (list_any test e.before) (list_any test e.items) (sym (list_any-append test e.before e.items) ∙ some)) [
      | inl before ↦
          absurd (false≢true (sym (none-narrower test (names_child k) narrower (e.before ++ s.before) none)
          ∙ (list_any-append test e.before s.before ∙ or_left _ _ before)))
      | inr here ↦ here
    ]

module _ (site : Site) (T : List Item) (f : Promised site T) (stop : stopped T ≡ true) (c k : ℕ) (is : has (children T c) k ≡ true) where
  abbrev L : List Item
  L = own T c

  abbrev e : Exchange
  e = current site c L

  b : Between T
  b = (stands site T f).between

  conn : Connected site T c
  conn = connected site T c f (owner_known T c k b is)

  first_in : StartsFirst c (all_of e)
  first_in = subst (StartsFirst c) (sym (all_of-current site c L)) conn.first

  leg_good : has (children e.items c) k ≡ true → LegOf site c conn.end.step e k
  leg_good here =
      let all : LegsGood site c conn.end.step (goes_on site c conn.end.step) =
      last_all (LegsGood site c conn.end.step) (ended_in site c conn.end.step) (goes_on site c conn.end.step) conn.end.good.children in
      leg_among site c conn.end.step e k (legs site c e)
      (subst (λ l. LegsGood site c conn.end.step (current site c l)) conn.end.ends all)
      (conn.end.runs.legs_have k here)

  kid_says : (test : Item → Bool) → ((x : Item) → names_child k x ≡ false → test x ≡ false) → list_any test T ≡ true → list_any test (all_of e) ≡ true
  kid_says test narrower some =
      ap (λ (l : List Item). list_any test l) (all_of-current site c L) ∙ (any-kept test (names_child k) narrower L T (b.kids c k is) ∙ some)

  stop_here : has (children e.items c) k ≡ true → IsStopped e.items k
  stop_here here = conn.end.runs.stops (ap stopped (all_of-current site c L) ∙ (stopped-own T c b ∙ stop)) k here

  settled_here : has (children e.items c) k ≡ true → started T k ≡ true → exited T k ≡ true → settled e.items k ≡ true
  settled_here here runs gone =
      let l = leg_good here in
      let in_it : (test : Item → Bool) → ((x : Item) → names_child k x ≡ false → test x ≡ false) → list_any test T ≡ true → list_any test e.items ≡ true =
      λ test narrower some. in_exchange c e k test narrower first_in here (kid_says test narrower some) in
      subst (λ n. settled e.items n ≡ true) l.child
      (settled_at_exit (run_of site c e l.leg) (has_room c (end_of conn.end.step)) (heard_of conn.end.step) conn.end.step.acts e.items l.good
      (subst (λ n. started e.items n ≡ true) (sym l.child) (in_it (is_started k) (started_names k) runs))
      (subst (λ n. exited e.items n ≡ true) (sym l.child) (in_it (is_exited k) (exit_names k) gone))
      (decided_by_stop (run_of site c e l.leg) e.items (subst (IsStopped e.items) (sym l.child) (stop_here here))))

  kid_settled : started T k ≡ true → exited T k ≡ true → settled T k ≡ true
  kid_settled runs gone =
      sym (settled-own T c k b is)
      ∙ elim (either site c L k (ap (λ ks. has ks k) (children-own T c b) ∙ is)) [
        | inl over ↦ over
        | inr here ↦ subst (λ l. settled l k ≡ true) (all_of-current site c L) (settled-right e.before e.items k (settled_here here runs gone))
      ]

-- a Start that was answered and started none was refused
refused_by : (T : List Item) (k : ℕ) → start_answered T k ≡ true → started T k ≡ false → start_refused T k ≡ true
refused_by [] k answer never = absurd (false≢true answer)
refused_by (x ∷ T) k answer never =
    let none = or_parts (is_started k x) (list_any (is_started k) T) never in
    elim (or_cases (is_start_answer k x) (list_any (is_start_answer k) T) answer) [
      | inl here ↦ or_left (is_refusal k x) (start_refused T k) (by_kind (is_started k x) (is_start_failed k x) (is_start_full k x) none.0 here)
      | inr later ↦ or_right (is_refusal k x) (start_refused T k) (refused_by T k later none.1)
    ]
  where
    by_kind : (a b c : Bool) → a ≡ false → (a || b || c) ≡ true → (b || c) ≡ true
    by_kind true b c not_so is = absurd (false≢true (sym not_so))
    by_kind false b c not_so is = is

pub all_settle : (site : Site) (T : List Item) → Promised site T → stopped T ≡ true → all_answered T ≡ true → all_exited T ≡ true → all_settled T ≡ true
all_settle site T f stop answered exit =
    let b : Between T = (stands site T f).between in
    let n : ℕ = start_count T in
    let each_answered : (k : ℕ) → k < n → start_answered T k ≡ true = λ k lt. each_below (start_answered T) n k (ap (list_all (start_answered T)) (sym b.numbers) ∙ answered) lt in
    let each_exited : (k : ℕ) → k < n → implies (started T k) (exited T k) ≡ true =
    λ k lt. each_below (λ j. implies (started T j) (exited T j)) n k (ap (list_all (λ j. implies (started T j) (exited T j))) (sym b.numbers) ∙ exit) lt in
    ap (list_all (settled T)) b.numbers
    ∙ all_below (settled T) n (λ k lt. by_answer k (b.owned k lt) (each_answered k lt) (each_exited k lt))
  where
    by_answer : (k : ℕ) → Owner T k → start_answered T k ≡ true → implies (started T k) (exited T k) ≡ true → settled T k ≡ true
    by_answer k o answer gone = elim (cases_Bool (started T k)) [
      | inl runs ↦ kid_settled site T f stop o.owner k o.is runs (implied _ _ gone runs)
      | inr never ↦ or_left (start_refused T k) _ (refused_by T k answer never)
    ]
