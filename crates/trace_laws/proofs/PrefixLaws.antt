-- What stands at each place of a good trace whose events fit, item by item.
use Rattle.std.proofs.Common.{◌≡◌, ℕ, suc, ◌+◌, ◌<◌, Bool, true, false, List, [], ◌∷◌, ◌++◌, map, Option, Some, None, refl, sym, ◌∙◌, ap, subst, append-nil, append_assoc, arith, inl, inr, add-one}
use Rattle.std.specs.Prelude.{◌==◌, ◌||◌, if◌then◌else◌}
use Rattle.std.specs.List.{AllByRecursion, list_any}
use Rattle.std.proofs.lemmas.Bool.{cases_Bool, cases_eq, cases_lt, or_left, or_right, or_from, and_parts, and_from, eqb-true, eq-eqb, ne_eqb, ltb-true, lt-ltb, false≢true, cond-true, cond-false}
use Rattle.std.proofs.lemmas.List.{map-append}
use Rattle.host_base.specs.declared.launch.Launch.{Launch}
use Rattle.host_base.specs.declared.site.Site.{Site}
use Rattle.host_trace.specs.declared.items.Act.{Act}
use Rattle.host_trace.specs.declared.items.Act.TheVariants.{WantClient, Write, Shut, Start, Feed, EndInput, WantChild, Kill, Release, Upgrade, Says, CloseWs}
use Rattle.host_trace.specs.declared.items.Event.{Event}
use Rattle.host_trace.specs.declared.items.Item.{Item}
use Rattle.host_trace.specs.declared.items.Item.TheVariants.{In, Out}
use Rattle.host_trace.specs.Fits.{fits}
use Rattle.host_trace.specs.Kinds.{is_accepted, is_start, names_child}
use Rattle.host_trace.specs.Projections.{accepted_count, children, is_known, is_own, own, start_count}
use Rattle.host_trace.specs.Trace.{after_step, steps_from}
use Rattle.host_trace.proofs.FirstLaws.{list_any-push}
use Rattle.host_trace.proofs.OwnLaws.{own-push}
use Rattle.own_traces.specs.Between.{Between}
use Rattle.own_traces.specs.Moved.{Moved}
use Rattle.own_traces.specs.Whose.{has, is_a_start, is_of}
use Rattle.own_traces.proofs.BetweenLaws.{accepted_count-grows, any_own, between-empty, between-push, start_count-next}
use Rattle.own_traces.proofs.BlockLaws.{moved}
use Rattle.own_traces.proofs.FitLaws.{names_known}
use Rattle.own_traces.proofs.KeptLaws.{none-narrower}
use Rattle.own_traces.proofs.NameLaws.{start_names}
use Rattle.trace_model.specs.Between.{BetweenGood, starter, owner_of_act, may_act, or_least, are_in_turn, is_numbered_from}
use Rattle.trace_model.specs.Good.{begins_with_event}
use Rattle.trace_laws.specs.TraceLaws.{StartsOnce}
use Rattle.trace_laws.specs.Promised.{HasFitting, Promised}
use Rattle.trace_laws.proofs.ListLaws.{Front, Split, at_end, begins-append, begins-filled, front, no_more, shorter, split, whole, within}

-- before a Start for c nothing names its child
abbrev pub StartsFirst : ℕ → List Item → Type 0
StartsFirst c L = (k j hop : ℕ) (launch : Launch) (p q : List Item) → L ≡ p ++ Out (Start k c j hop launch) ∷ q → list_any (names_child k) p ≡ false

pub record Stands (T : List Item) : Type 0 where
  pub between : Between T
  pub begins : (c : ℕ) → begins_with_event (own T c) ≡ true
  pub first : (c : ℕ) → StartsFirst c (own T c)
  pub first_of_all : (c : ℕ) → StartsFirst c T
  pub once : (k : ℕ) → k < start_count T → StartsOnce T k
  pub fronts : (p q : List Item) → T ≡ p ++ q → Between p

-- each front of a list with one item more is one of the list, or all of it
fronts_with : (T : List Item) (x : Item) → Between (T ++ x ∷ []) → ((p q : List Item) → T ≡ p ++ q → Between p)
    → (p q : List Item) → T ++ x ∷ [] ≡ p ++ q → Between p
fronts_with T x now was p q is = go (front T p q x is)
  where
    go : Front T p x → Between p
    go (shorter r at) = was p r at
    go (whole at) = subst Between at now

-- ---- one item more

-- it is no Start
first-plain : (c : ℕ) (L : List Item) (x : Item) → is_a_start x ≡ false → StartsFirst c L → StartsFirst c (L ++ x ∷ [])
first-plain c L x plain first k j hop launch p q is = go (split L p q x (Out (Start k c j hop launch)) is)
  where
    go : Split L p q x (Out (Start k c j hop launch)) → list_any (names_child k) p ≡ false
    go (within r inside) = first k j hop launch p r inside
    go (at_end all last) = absurd (false≢true (sym plain ∙ ap is_a_start last))

-- it is one, and nothing named its child
first-start : (c : ℕ) (L : List Item) (k d j hop : ℕ) (launch : Launch) → list_any (names_child k) L ≡ false → StartsFirst c L
    → StartsFirst c (L ++ Out (Start k d j hop launch) ∷ [])
first-start c L k d j hop launch none first m i h l p q is = go (split L p q (Out (Start k d j hop launch)) (Out (Start m c i h l)) is)
  where
    number_same : (k d j hop m c i h : ℕ) (l1 l2 : Launch) → Out (Start k d j hop l1) ≡ Out (Start m c i h l2) → k ≡ m
    number_same k d j hop m c i h l1 l2 e = cc

    go : Split L p q (Out (Start k d j hop launch)) (Out (Start m c i h l)) → list_any (names_child m) p ≡ false
    go (within r inside) = first m i h l p r inside
    go (at_end all last) =
        ap (λ (n : ℕ). list_any (names_child n) p) (sym (number_same k d j hop m c i h launch l last))
        ∙ (ap (λ (xs : List Item). list_any (names_child k) xs) (sym all) ∙ none)

-- the Start of a child that stood stands
once-plain : (T : List Item) (x : Item) (k : ℕ) → is_start k x ≡ false → StartsOnce T k → StartsOnce (T ++ x ∷ []) k
once-plain T x k other s = record {
  before = s.before;
  conn = s.conn;
  exchange = s.exchange;
  hop = s.hop;
  launch = s.launch;
  later = s.later ++ x ∷ [];
  stands = ap (λ (l : List Item). l ++ x ∷ []) s.stands ∙ append_assoc s.before (Out (Start k s.conn s.exchange s.hop s.launch) ∷ s.later) (x ∷ []);
  none_before = s.none_before;
  none_later = list_any-push (is_start k) s.later x ∙ or_from _ _ s.none_later other;
}

-- ---- an event

event_own : (T : List Item) (event : Event) (c : ℕ) (b : Bool) → begins_with_event (own T c) ≡ true
    → begins_with_event (own T c ++ (if b then In event ∷ [] else [])) ≡ true
event_own T event c true begins = begins-append (own T c) (In event ∷ []) begins refl
event_own T event c false begins = begins-append (own T c) [] begins refl

first_own : (T : List Item) (event : Event) (c : ℕ) (b : Bool) → StartsFirst c (own T c) → StartsFirst c (own T c ++ (if b then In event ∷ [] else []))
first_own T event c true first = first-plain c (own T c) (In event) refl first
first_own T event c false first = subst (StartsFirst c) (sym (append-nil (own T c))) first

pub stands-event : (limit : ℕ) (T : List Item) (event : Event) → fits limit T event ≡ true → Stands T → Stands (T ++ In event ∷ [])
stands-event limit T event fit s =
    let known = names_known limit T event s.between fit in
    let count : start_count (T ++ In event ∷ []) ≡ start_count T = start_count-next T (In event) in
    let now : Between (T ++ In event ∷ []) = between-push T (In event) s.between refl
    (λ c is. let lt = known.conns c is in let grows = accepted_count-grows T (In event) in omega (arith, lt, grows)) known.kids in
    record {
      between = now;
      begins = λ c. ap begins_with_event (own-push T c (In event)) ∙ event_own T event c (is_own c (children T c) (accepted_count T) (In event)) (s.begins c);
      first = λ c. subst (StartsFirst c) (sym (own-push T c (In event))) (first_own T event c (is_own c (children T c) (accepted_count T) (In event)) (s.first c));
      first_of_all = λ c. first-plain c T (In event) refl (s.first_of_all c);
      once = λ k lt. once-plain T (In event) k refl (s.once k (subst (λ n. k < n) count lt));
      fronts = fronts_with T (In event) now s.fronts;
    }

-- ---- an act of a connection that was accepted

-- what a Start and any other act leave of the Starts that stand
first_act : (T L : List Item) (c d : ℕ) (a : Act) → Between T → ((test : Item → Bool) → list_any test T ≡ false → list_any test L ≡ false)
    → is_of c (children T c) (start_count T) (Out a) ≡ true → StartsFirst d L → StartsFirst d (L ++ Out a ∷ [])
first_act T L c d (Start k e j hop launch) b fewer is first =
    let next = eqb-true (start_count T) k (and_parts (c == e) (start_count T == k) is).1 in
    first-start d L k e j hop launch (fewer (names_child k) (b.named k (omega (arith, next)))) first
first_act T L c d _ b fewer is first = first-plain d L _ refl first

once_act : (T : List Item) (c : ℕ) (a : Act) → Between T → is_of c (children T c) (start_count T) (Out a) ≡ true
    → ((k : ℕ) → k < start_count T → StartsOnce T k) → (k : ℕ) → k < start_count (T ++ Out a ∷ []) → StartsOnce (T ++ Out a ∷ []) k
once_act T c (Start k e j hop launch) b is once m lt =
    let next = eqb-true (start_count T) k (and_parts (c == e) (start_count T == k) is).1 in
    let count : start_count (T ++ Out (Start k e j hop launch) ∷ []) ≡ start_count T + 1 = start_count-next T (Out (Start k e j hop launch)) in
    elim (cases_lt m (start_count T)) [
      | inl old ↦ once-plain T (Out (Start k e j hop launch)) m (ne_eqb m k (λ same. absurd (omega (arith, same, old, next)))) (once m old)
      | inr new ↦
          let same : k ≡ m = omega (arith, new, lt, count, next) in
          subst (StartsOnce (T ++ Out (Start k e j hop launch) ∷ [])) same (record {
            before = T;
            conn = e;
            exchange = j;
            hop = hop;
            launch = launch;
            later = [];
            stands = refl;
            none_before = none-narrower (is_start k) (names_child k) (start_names k) T (b.named k (omega (arith, next)));
            none_later = refl;
          })
    ]
once_act T c _ b is once m lt = once-plain T _ m refl (once m (subst (λ n. m < n) (start_count-next T _) lt))

pub stands-act : (T : List Item) (c : ℕ) (a : Act) → c < accepted_count T → is_of c (children T c) (start_count T) (Out a) ≡ true → Stands T → Stands (T ++ Out a ∷ [])
stands-act T c a known is s =
    let one : Moved T c (a ∷ []) = moved (a ∷ []) T c s.between known (and_from _ _ is refl) in
    let accepted : list_any is_accepted (own T c) ≡ true = s.between.accepts c ∙ lt-ltb c (accepted_count T) known in
    record {
      between = one.between;
      begins = λ d. elim (cases_eq d c) [
        | inl same ↦
            subst (λ n. begins_with_event (own (T ++ Out a ∷ []) n) ≡ true) (sym same)
            (ap begins_with_event one.mine ∙ begins-filled is_accepted (own T c) (Out a ∷ []) accepted (s.begins c))
        | inr other ↦ ap begins_with_event (one.others d other) ∙ s.begins d
      ];
      first = λ d. elim (cases_eq d c) [
        | inl same ↦
            subst (λ n. StartsFirst n (own (T ++ Out a ∷ []) n)) (sym same) (subst (StartsFirst c) (sym one.mine) (first_act T (own T c) c c a s.between (λ test none. any_own test T c none) is (s.first c)))
        | inr other ↦ subst (StartsFirst d) (sym (one.others d other)) (s.first d)
      ];
      first_of_all = λ d. first_act T T c d a s.between (λ test none. none) is (s.first_of_all d);
      once = once_act T c a s.between is s.once;
      fronts = fronts_with T (Out a) one.between s.fronts;
    }

-- ---- whose an act is

record HasActor (T : List Item) (o : Option ℕ) : Type 0 where
  actor : ℕ
  is : o ≡ Some actor
  known : actor < accepted_count T

actor_of : (T : List Item) (concerned : Option ℕ) (least : ℕ) (o : Option ℕ) → may_act T concerned least o ≡ true → HasActor T o
actor_of T concerned least None may = absurd (false≢true may)
actor_of T None least (Some actor) may =
    record { actor = actor; is = refl; known = ltb-true actor (accepted_count T) (and_parts _ (is_known T actor) may).1 }
actor_of T (Some c) least (Some actor) may =
    record { actor = actor; is = refl; known = ltb-true actor (accepted_count T) (and_parts (c == actor) (is_known T actor) may).1 }

some_same : (a b : ℕ) → Some a ≡ Some b → a ≡ b
some_same a b e = cc

-- who started a child has it
starter_has : (T : List Item) (k c : ℕ) → starter k T ≡ Some c → has (children T c) k ≡ true
starter_has [] k c is = absurd (cc)
starter_has (Out (Start d e j hop launch) ∷ T) k c is = elim (cases_Bool (k == d)) [
  | inl same ↦
      let mine : e ≡ c = some_same e c (sym (cond-true (k == d) (Some e) (starter k T) same) ∙ is) in
      ap (λ (b : Bool). has ((if b then d ∷ [] else []) ++ children T c) k) (eq-eqb c e (sym mine))
      ∙ or_left (d == k) (has (children T c) k) (eq-eqb d k (sym (eqb-true k d same)))
  | inr other ↦
      let rest = starter_has T k c (sym (cond-false (k == d) (Some e) (starter k T) other) ∙ is) in
      among (c == e) d k (children T c) rest
]
  where
    among : (b : Bool) (d k : ℕ) (ks : List ℕ) → has ks k ≡ true → has ((if b then d ∷ [] else []) ++ ks) k ≡ true
    among false d k ks is = is
    among true d k ks is = or_right (d == k) (has ks k) is
starter_has (x ∷ T) k c is = starter_has T k c is

of_conn : (c d : ℕ) (rest : Bool) → Some d ≡ Some c → ((c == d) || rest) ≡ true
of_conn c d rest is = or_left (c == d) rest (eq-eqb c d (sym (some_same d c is)))

-- the act of an actor is of it alone
act_is_of : (T : List Item) (c : ℕ) (a : Act) (acts : List Act) → owner_of_act T a ≡ Some c → is_numbered_from (start_count T) (a ∷ acts) ≡ true
    → is_of c (children T c) (start_count T) (Out a) ≡ true
act_is_of T c (WantClient d) acts is numbered = of_conn c d _ is
act_is_of T c (Write d bytes) acts is numbered = of_conn c d _ is
act_is_of T c (Shut d why) acts is numbered = of_conn c d _ is
act_is_of T c (Start k d j hop launch) acts is numbered =
    and_from (c == d) (start_count T == k) (eq-eqb c d (sym (some_same d c is)))
    (eq-eqb (start_count T) k (sym (eqb-true k (start_count T) (and_parts (k == start_count T) _ numbered).0)))
act_is_of T c (Feed k bytes) acts is numbered = starter_has T k c is
act_is_of T c (EndInput k) acts is numbered = starter_has T k c is
act_is_of T c (WantChild k) acts is numbered = starter_has T k c is
act_is_of T c (Kill k) acts is numbered = starter_has T k c is
act_is_of T c (Release k) acts is numbered = starter_has T k c is
act_is_of T c (Upgrade d rest) acts is numbered = of_conn c d _ is
act_is_of T c (Says d texts) acts is numbered = of_conn c d _ is
act_is_of T c (CloseWs d code) acts is numbered = of_conn c d _ is

-- the numbers go on
numbers-next : (T : List Item) (a : Act) (acts : List Act) → is_numbered_from (start_count T) (a ∷ acts) ≡ true → is_numbered_from (start_count (T ++ Out a ∷ [])) acts ≡ true
numbers-next T (Start k c j hop launch) acts is =
    ap (λ n. is_numbered_from n acts) (start_count-next T (Out (Start k c j hop launch)) ∙ add-one (start_count T))
    ∙ (and_parts (k == start_count T) (is_numbered_from (suc (start_count T)) acts) is).1
numbers-next T _ acts is = ap (λ n. is_numbered_from n acts) (start_count-next T _) ∙ is

stands-acts : (T : List Item) (concerned : Option ℕ) (least : ℕ) (acts : List Act) → are_in_turn T concerned least acts ≡ true
    → is_numbered_from (start_count T) acts ≡ true → Stands T → Stands (T ++ map Out acts)
stands-acts T concerned least [] turn numbered s = subst Stands (sym (append-nil T)) s
stands-acts T concerned least (a ∷ acts) turn numbered s =
    let parts = and_parts (may_act T concerned least (owner_of_act T a)) (are_in_turn (T ++ Out a ∷ []) concerned (or_least (owner_of_act T a) least) acts) turn in
    let who = actor_of T concerned least (owner_of_act T a) parts.0 in
    let one = stands-act T who.actor a who.known (act_is_of T who.actor a acts who.is numbered) s in
    subst Stands (append_assoc T (Out a ∷ []) (map Out acts))
    (stands-acts (T ++ Out a ∷ []) concerned (or_least (owner_of_act T a) least) acts parts.1 (numbers-next T a acts numbered) one)

-- ---- a step, and all of them

stands-step : (site : Site) (before : List Item) (event : Event) (acts : List Act) → BetweenGood site (record { before = before; event = event; acts = acts })
    → fits site.limits.children before event ≡ true → Stands before → Stands (after_step before event acts)
stands-step site before event acts good fit s =
    let heard = stands-event site.limits.children before event fit s in
    subst Stands (append_assoc before (In event ∷ []) (map Out acts))
    (stands-acts (before ++ In event ∷ []) _ 0 acts good.owners
    (ap (λ n. is_numbered_from n acts) (start_count-next before (In event)) ∙ good.numbers) heard)

after_step-push : (before : List Item) (event : Event) (acts : List Act) (a : Act) (rest : List Item) →
    after_step before event (acts ++ a ∷ []) ++ rest ≡ after_step before event acts ++ Out a ∷ rest
after_step-push before event acts a rest = simp (map-append, append_assoc)

stands-from : (site : Site) (before : List Item) (event : Event) (acts : List Act) (T : List Item)
    → AllByRecursion (BetweenGood site) (steps_from before event acts T) → AllByRecursion (HasFitting site) (steps_from before event acts T)
    → Stands before → Stands (after_step before event acts ++ T)
stands-from site before event acts [] good fit s =
    subst Stands (sym (append-nil (after_step before event acts))) (stands-step site before event acts good.0 fit.0 s)
stands-from site before event acts (In e ∷ T) good fit s =
    subst Stands (append_assoc (after_step before event acts) (In e ∷ []) T)
    (stands-from site (after_step before event acts) e [] T good.1 fit.1 (stands-step site before event acts good.0 fit.0 s))
stands-from site before event acts (Out a ∷ T) good fit s =
    subst Stands (after_step-push before event acts a T) (stands-from site before event (acts ++ a ∷ []) T good fit s)

stands-empty : Stands []
stands-empty = record {
  between = between-empty;
  begins = λ c. refl;
  first = λ c k j hop launch p q is. none p q k c j hop launch is;
  first_of_all = λ c k j hop launch p q is. none p q k c j hop launch is;
  once = λ k lt. absurd (omega (arith, lt));
  fronts = λ p q is. subst Between (no_more p q is) between-empty;
}
  where
    none : (p q : List Item) (k c j hop : ℕ) (launch : Launch) → [] ≡ p ++ Out (Start k c j hop launch) ∷ q → list_any (names_child k) p ≡ false
    none [] q k c j hop launch is = refl
    none (x ∷ p) q k c j hop launch is = absurd (cc)

pub stands : (site : Site) (T : List Item) → Promised site T → Stands T
stands site [] f = stands-empty
stands site (In e ∷ T) f = stands-from site [] e [] T f.good.between f.fit stands-empty
stands site (Out a ∷ T) f = absurd (false≢true f.good.begun)
