-- A step begins: nothing was given to a child yet; and a child is started in it.
use Rattle.std.proofs.Common.{◌≡◌, ◌≤◌, ℕ, ◌+◌, Bool, true, false, List, [], ◌∷◌, ◌++◌, map, Option, Some, None, refl, sym, ap, subst, ◌∙◌, append-nil, add-zero, arith, inl, inr}
use Rattle.std.specs.Prelude.{if◌then◌else◌, ◌||◌, ◌==◌, count_by}
use Rattle.std.specs.List.{list_any, fold}
use Rattle.std.proofs.lemmas.Bool.{cases_Bool, false≢true, or_parts, eqb-true}
use Rattle.std.proofs.lemmas.Grind.{fold-append}
use Rattle.std.proofs.lemmas.List.Folds.{list_any-append}
use Rattle.host_base.specs.declared.launch.Launch.{Launch}
use Rattle.host_base.specs.declared.request.Request.{Request}
use Rattle.host_base.specs.declared.site.ScriptKind.{ScriptKind}
use Rattle.host_base.specs.declared.site.Site.{Site}
use Rattle.host_trace.specs.declared.items.Act.{Act}
use Rattle.host_trace.specs.declared.items.Act.TheVariants.{Start}
use Rattle.host_trace.specs.declared.items.Event.{Event}
use Rattle.host_trace.specs.declared.items.Item.{Item}
use Rattle.host_trace.specs.declared.items.Item.TheVariants.{In, Out}
use Rattle.host_trace.specs.Kinds.{names_child, is_end_input, is_kill, is_release, is_want_child, is_input_end, is_output_end, is_child_answer}
use Rattle.host_trace.specs.Projections.{child_wanted, input_ended, killed, output_ended}
use Rattle.own_traces.specs.OwnFits.{fits_own}
use Rattle.trace_child.specs.Words.{given}
use Rattle.child_core.specs.Knows.{one_if}
use Rattle.child_core.specs.Laws.{just_begun}
use Rattle.child_core.specs.Setting.{Setting}
use Rattle.child_core.specs.View.{View}
use Rattle.child_core.proofs.EndLaws.{wanted_is}
use Rattle.child_core.proofs.TellLaws.{noted-other}
use Rattle.child_core.proofs.WordLaws.{none, none_count, input_names, kill_names, output_names, want_names, answer_names, end_input_names}
use Rattle.trace_model.specs.Exchange.{Exchange, pushed, all_of}
use Rattle.trace_model.specs.Legs.{Leg, leg_of}
use Rattle.child_laws.specs.Setting.{setting}
use Rattle.child_laws.specs.Children.{KnowsLeg, KnowsRuns, KnowsChildren, NoMore, is_over}
use Rattle.child_laws.specs.Heard.{run_heard}
use Rattle.child_laws.specs.Laws.{MayStart}
use Rattle.child_laws.specs.Step.{Counted, Dealt, Turn, LastIs, DealsWith, waiting, begun, was}
use Rattle.child_laws.proofs.ActLaws.{Stays}
use Rattle.child_laws.proofs.DueLaws.{unrefused}
use Rattle.child_laws.proofs.EventLaws.{runs_heard, fresh_heard}
use Rattle.child_laws.proofs.StartLaws.{runs_begun, fresh_begun}
use Rattle.child_laws.proofs.DealtLaws.{given_other, untouched_fair, settled_fair, turn_fair}
use Rattle.child_laws.proofs.DealLaws.{items_push, over_push, dealt_other, held_apart}

-- ---- items before, none of which names the child

any_behind : (test : Item → Bool) (before L : List Item) → list_any test before ≡ false → list_any test (before ++ L) ≡ list_any test L
any_behind test before L e = list_any-append test before L ∙ ap (λ b. b || list_any test L) e

count_behind : (test : Item → Bool) (before L : List Item) → list_any test before ≡ false → count_by test (before ++ L) ≡ count_by test L
count_behind test before L e =
    fold-append (λ (n : ℕ) (y : Item). n + (if test y then 1 else 0)) 0 before L
    ∙ ap (λ n. fold (λ (n : ℕ) (y : Item). n + (if test y then 1 else 0)) n L) (none_count test 0 before e)

module _ (site : Site) (c : ℕ) (e : Exchange) (leg : Leg) (v : View) (k : KnowsLeg site c e false leg v) where
  -- the items of the connection say of it what those of the exchange say
  untouched : was (all_of e) v ≡ v
  untouched =
      let n : ℕ = v.number in
      rw (
        any_behind (is_input_end n) e.before e.items (none (is_input_end n) n e.before (input_names n) k.unnamed),
        any_behind (λ x. is_kill n x) e.before e.items (none (is_kill n) n e.before (kill_names n) k.unnamed),
        any_behind (is_output_end n) e.before e.items (none (is_output_end n) n e.before (output_names n) k.unnamed),
        count_behind (is_child_answer n) e.before e.items (none (is_child_answer n) n e.before (answer_names n) k.unnamed),
        count_behind (is_want_child n) e.before e.items (none (is_want_child n) n e.before (want_names n) k.unnamed),
        ← k.knows.input_ended,
        ← k.knows.killed,
        ← k.knows.output_ended,
        wanted_is false (setting site c e leg.hop) v e.items k.knows,
      ) refl

counted_none : (heard : List Item) (v : View) → was heard v ≡ v → Counted heard [] v
counted_none heard v e = record {
  input = ap one_if (sym (ap (λ (w : View). w.input_ended) e)) ∙ sym (add-zero _);
  kill = ap one_if (sym (ap (λ (w : View). w.killed) e)) ∙ sym (add-zero _);
  release = ap one_if (sym (ap (λ (w : View). w.output_ended) e)) ∙ sym (add-zero _);
  ask = ap one_if (sym (ap (λ (w : View). w.asked) e)) ∙ sym (add-zero _);
}

dealt_none : (site : Site) (c : ℕ) (e : Exchange) (leg : Leg) (v : View) → KnowsLeg site c e false leg v → Dealt (all_of e) [] v
dealt_none site c e leg v k =
    let same = untouched site c e leg v k in
    record {
      counted = counted_none (all_of e) v same;
      deserved = untouched_fair (all_of e) v same;
      apart = unrefused false (setting site c e leg.hop) v e.items k.knows;
    }

last_none : (More : View → Type 0) (site : Site) (c : ℕ) (e : Exchange) (ls : List Leg) (run : Option View) → KnowsRuns More site c e false ls run → LastIs (all_of e) [] waiting run
last_none More site c e ls None k = tt
last_none More site c e ls (Some held) k =
    let same = untouched site c e k.leg k.view k.known in
    subst (λ v. LastIs (all_of e) [] waiting (Some v)) (sym k.held_as) (counted_none (all_of e) k.view same, same)

pub deals_begin : (site : Site) (c : ℕ) (e : Exchange) (ev : Event) (found : Bool) (next : ℕ) (ls : List Leg) (run : Option View) → 2 ≤ site.limits.head
    → fits_own site.limits.children (all_of e) ev ≡ true → KnowsChildren site c e false next ls run
    → DealsWith site c (all_of (pushed e (In ev))) [] (pushed e (In ev)) [] false waiting next ls (run_heard site c e ls found ev run)
deals_begin site c e ev found next ls run two fits k =
    let d : Exchange = pushed e (In ev) in
    let runs : KnowsRuns (Dealt (all_of d) []) site c d false ls (run_heard site c e ls found ev run) =
    runs_heard site c e ev found two fits NoMore (Dealt (all_of d) []) (λ leg v known. dealt_none site c d leg v known) ls run k.runs in
    record {
      items = sym (append-nil (all_of d));
      fresh = fresh_heard site c e ev found two fits next k.fresh;
      runs = runs;
      last = last_none (Dealt (all_of d) []) site c d ls (run_heard site c e ls found ev run) runs;
      ended = tt;
    }

-- ---- a child that is started in the step

none_given : (test : Item → Bool) (n : ℕ) (acts : List Act) → list_any test (map Out acts) ≡ false → fold (λ (n : ℕ) (act : Act). n + (if test (Out act) then 1 else 0)) n acts ≡ n
none_given test n [] e = refl
none_given test n (a ∷ acts) e =
    let p = or_parts (test (Out a)) (list_any test (map Out acts)) e in
    rw (p.0, add-zero n) (none_given test n acts p.1)

module _ (s : Setting) (k : ℕ) (kind : ScriptKind) (body : List ℕ) (whole : Bool) (heard : List Item) (acts : List Act) (act : Act)
    (unheard : list_any (names_child k) heard ≡ false) (unnamed : list_any (names_child k) (map Out acts) ≡ false) where
  not_yet : was heard (just_begun s k kind body whole) ≡ just_begun s k kind body whole
  not_yet = rw (
    none (is_input_end k) k heard (input_names k) unheard,
    none (λ x. is_kill k x) k heard (kill_names k) unheard,
    none (is_output_end k) k heard (output_names k) unheard,
    none_count (is_child_answer k) 0 heard (none (is_child_answer k) k heard (answer_names k) unheard),
    none_count (is_want_child k) 0 heard (none (is_want_child k) k heard (want_names k) unheard),
  ) refl

  none_of : (test : Item → Bool) → ((y : Item) → test y ≡ true → names_child k y ≡ true) → test (Out act) ≡ false → given test (acts ++ act ∷ []) ≡ 0
  none_of test names other = given_other test acts act other ∙ none_given test 0 acts (none test k (map Out acts) names unnamed)

  counted_begun : is_end_input k (Out act) ≡ false → is_kill k (Out act) ≡ false → is_release k (Out act) ≡ false → is_want_child k (Out act) ≡ false
      → Counted heard (acts ++ act ∷ []) (just_begun s k kind body whole)
  counted_begun i d r w =
      let e = not_yet in
      record {
        input = ap one_if (sym (ap (λ (w : View). w.input_ended) e)) ∙ sym (ap (λ n. one_if (input_ended heard k) + n) (none_of (is_end_input k) (end_input_names k) i) ∙ add-zero _);
        kill = ap one_if (sym (ap (λ (w : View). w.killed) e)) ∙ sym (ap (λ n. one_if (killed heard k) + n) (none_of (is_kill k) (kill_names k) d) ∙ add-zero _);
        release = ap one_if (sym (ap (λ (w : View). w.output_ended) e)) ∙ sym (ap (λ n. one_if (output_ended heard k) + n) (none_of (is_release k) (λ y is. output_names k y (release_ends y is)) r) ∙ add-zero _);
        ask = ap one_if (sym (ap (λ (w : View). w.asked) e)) ∙ sym (ap (λ n. one_if (child_wanted heard k) + n) (none_of (is_want_child k) (want_names k) w) ∙ add-zero _);
      }
    where
      release_ends : (y : Item) → is_release k y ≡ true → is_output_end k y ≡ true
      release_ends (Out a) e = e
      release_ends (In ev) e = absurd (false≢true e)

other_number : (k j : ℕ) (before all : List Item) → list_any (names_child k) before ≡ true → list_any (names_child j) (before ++ all) ≡ false → (k == j) ≡ false
other_number k j before all named unnamed = elim (cases_Bool (k == j)) [
  | inl same ↦
      let p = or_parts (list_any (names_child j) before) (list_any (names_child j) all) (sym (list_any-append (names_child j) before all) ∙ unnamed) in
      absurd (false≢true (sym p.0 ∙ subst (λ n. list_any (names_child n) before ≡ true) (eqb-true k j same) named))
  | inr other ↦ other
]

module _ (site : Site) (c : ℕ) (heard : List Item) (acts : List Act) (e : Exchange) (over : List Exchange) (turn : Turn) (next : ℕ) (ls : List Leg) (run : Option View) (hop : ℕ) (kind : ScriptKind) (request : Request) (launch : Launch)
    (body : List ℕ) (whole : Bool) (two : 2 ≤ site.limits.head) (may : MayStart site c e ls run hop kind request body whole) (k : DealsWith site c heard acts e over false turn next ls run) where
  abbrev act : Act
  act = Start next c e.number hop launch

  abbrev view : View
  view = just_begun (setting site c e hop) next kind body whole

  unnamed : list_any (names_child next) (all_of e) ≡ false
  unnamed = k.fresh next (omega arith)

  parts : (list_any (names_child next) heard || list_any (names_child next) (map Out acts)) ≡ false
  parts = sym (list_any-append (names_child next) heard (map Out acts)) ∙ (ap (list_any (names_child next)) (sym k.items) ∙ unnamed)

  -- what the last child was given was wanted
  dealt_last : (run : Option View) → is_over run ≡ true → KnowsRuns (Dealt heard acts) site c e false ls run → LastIs heard acts turn run → (v : View) → run ≡ Some v → Dealt heard acts v
  dealt_last None over_it k l v is = absurd (cc)
  dealt_last (Some held) over_it k l v is =
      let apart = held_apart site c heard acts e over (Dealt heard acts) false ls held k in
      let f = turn_fair heard turn held l.1 in
      subst (Dealt heard acts) (same held v is) (record { counted = l.0; deserved = settled_fair heard f.0 held apart over_it f.1; apart = apart })
    where
      same : (a b : View) → Some a ≡ Some b → a ≡ b
      same a b e = cc

  start_stays : Stays (Dealt heard acts) (Dealt heard (acts ++ act ∷ [])) c act
  start_stays v other settled d = subst (Dealt heard (acts ++ act ∷ [])) (sym (noted-other c v (Out act) (rw other refl))) (dealt_other heard acts act v other d)

  pub deals_start : DealsWith site c heard (acts ++ act ∷ []) (pushed e (Out act)) over false begun (next + 1) (ls ++ leg_of hop kind request next ∷ []) (Some view)
  deals_start =
      let p = or_parts (list_any (names_child next) heard) (list_any (names_child next) (map Out acts)) parts in
      record {
        items = items_push e heard acts act k.items;
        fresh = fresh_begun site c e next ls run hop kind request launch body whole two may unnamed k.fresh;
        runs = runs_begun site c e next ls run hop kind request launch body whole two may unnamed (Dealt heard acts) (Dealt heard (acts ++ act ∷ [])) start_stays
            (dealt_last run may.over k.runs k.last) k.runs;
        last = (
          counted_begun (setting site c e hop) next kind body whole heard acts act p.0 p.1 refl refl refl refl,
          (not_yet (setting site c e hop) next kind body whole heard acts act p.0 p.1, refl),
        );
        ended = over_push site c heard acts act e.before over (λ j named. other_number j next e.before e.items named unnamed) k.ended;
      }
