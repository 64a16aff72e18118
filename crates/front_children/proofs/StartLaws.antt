-- A step in which a child is started.
use Rattle.std.proofs.Common.{◌≡◌, ℕ, Bool, true, false, List, [], ◌∷◌, ◌++◌, map, refl, sym, ap, subst, ◌∙◌}
use Rattle.std.specs.List.{AllByRecursion}
use Rattle.std.proofs.lemmas.List.{append_assoc, map-append}
use Rattle.host_base.specs.declared.launch.Launch.{Launch}
use Rattle.host_trace.specs.declared.items.Act.{Act}
use Rattle.host_trace.specs.declared.items.Act.TheVariants.{Start}
use Rattle.host_trace.specs.declared.items.Item.{Item}
use Rattle.host_trace.specs.declared.items.Item.TheVariants.{Out}
use Rattle.host_trace.specs.Kinds.{names_child, is_end_input, is_kill, is_release, is_want_child}
use Rattle.host_trace.specs.Projections.{started}
use Rattle.trace_child.specs.ChildActs.{child_acts}
use Rattle.trace_child.specs.ChildGood.{ChildGood}
use Rattle.trace_child.specs.Run.{Run}
use Rattle.trace_child.specs.Words.{given}
use Rattle.child_core.specs.View.{View}
use Rattle.child_core.specs.Due.{is_at_rest}
use Rattle.child_core.specs.Setting.{Setting, run_in}
use Rattle.child_core.specs.Knows.{KnowsRun}
use Rattle.child_core.specs.Laws.{IsStill}
use Rattle.child_core.specs.Walk.{Walk, walked, Deserved}
use Rattle.child_core.proofs.EndLaws.{Knows-walk, good_at_end}
use Rattle.child_core.proofs.WordLaws.{contra, end_input_names, kill_names, want_names}
use Rattle.front_children.specs.Steps.{AreApart, StartsAreGood}
use Rattle.front_children.proofs.StepLaws.{names_of, release_names, walk-apart}

-- ---- no act but the Start names the child

given_more : (test : Item → Bool) (act : Act) (acts : List Act) → test (Out act) ≡ false → given test (act ∷ acts) ≡ given test acts
given_more test act acts isnt = rw isnt refl

none_given : (test : Item → Bool) (acts : List Act) → AllByRecursion (λ act. test (Out act) ≡ false) acts → given test acts ≡ 0
none_given test [] all = refl
none_given test (act ∷ acts) all = given_more test act acts all.0 ∙ none_given test acts all.1

joined : (test : Item → Bool) (k c : ℕ) (before after : List Act) (d : Act) → ((y : Item) → test y ≡ true → names_child k y ≡ true) → test (Out d) ≡ false
    → AreApart c k before → AreApart c k after → AllByRecursion (λ act. test (Out act) ≡ false) (before ++ (d ∷ after))
joined test k c [] after d names isnt a b = (isnt, apart after b)
  where
    apart : (acts : List Act) → AreApart c k acts → AllByRecursion (λ act. test (Out act) ≡ false) acts
    apart [] all = tt
    apart (act ∷ acts) all = (contra (test (Out act)) (names_child k (Out act)) (names (Out act)) (names_of c k (Out act) all.0), apart acts all.1)
joined test k c (act ∷ before) after d names isnt a b =
    (contra (test (Out act)) (names_child k (Out act)) (names (Out act)) (names_of c k (Out act) a.0), joined test k c before after d names isnt a.1 b)

-- ---- nothing is due for a child that hasn't answered its Start

at_rest : (may : Bool) (v : View) → v.started ≡ false → is_at_rest may v ≡ true
at_rest may v unstarted = rw unstarted refl

undeserved : (may : Bool) (v : View) → Deserved may v v
undeserved may v = record {
  input = λ off on. absurd (cc);
  kill = λ off on. absurd (cc);
  release = λ off on. absurd (cc);
  ask = λ off on. absurd (cc);
}

no_acts : (run : Run) (room : Bool) (heard : List Item) (acts : List Act) (items : List Item) → started items run.child ≡ false
    → given (is_end_input run.child) acts ≡ 0 → given (is_kill run.child) acts ≡ 0 → given (is_release run.child) acts ≡ 0 → given (is_want_child run.child) acts ≡ 0
    → child_acts run room heard acts items ≡ true
no_acts run room heard acts items unstarted a b c d = rw (unstarted, a, b, c, d) refl

module _ (s : Setting) (still : IsStill s) (may : Bool) (v : View) (H : List Item) (before after : List Act) (c j hop : ℕ) (launch : Launch)
    (k : KnowsRun false s v (H ++ map Out (before ++ Start v.number c j hop launch ∷ []))) (off : v.started ≡ false)
    (a : AreApart s.conn v.number before) (b : AreApart s.conn v.number after) where
  later : Walk false s v (H ++ map Out (before ++ Start v.number c j hop launch ∷ [])) after × (walked s v after ≡ v)
  later = walk-apart s still v (H ++ map Out (before ++ Start v.number c j hop launch ∷ [])) after k b

  known : KnowsRun false s v ((H ++ map Out (before ++ Start v.number c j hop launch ∷ [])) ++ map Out after)
  known = subst (λ w. KnowsRun false s w ((H ++ map Out (before ++ Start v.number c j hop launch ∷ [])) ++ map Out after)) later.1 (Knows-walk false s v (H ++ map Out (before ++ Start v.number c j hop launch ∷ [])) after k later.0)

  good : ChildGood (run_in s v) may (H ++ map Out (before ++ Start v.number c j hop launch ∷ [])) after ((H ++ map Out (before ++ Start v.number c j hop launch ∷ [])) ++ map Out after)
  good = subst (λ w. ChildGood (run_in s w) may (H ++ map Out (before ++ Start v.number c j hop launch ∷ [])) after ((H ++ map Out (before ++ Start v.number c j hop launch ∷ [])) ++ map Out after)) later.1
      (good_at_end false may s v (H ++ map Out (before ++ Start v.number c j hop launch ∷ [])) after k later.0
      (subst (λ w. KnowsRun false s w ((H ++ map Out (before ++ Start v.number c j hop launch ∷ [])) ++ map Out after)) (sym later.1) known)
      (subst (λ w. is_at_rest may w ≡ true) (sym later.1) (at_rest may v off))
      (subst (λ w. Deserved may v w) (sym later.1) (undeserved may v)))

  items-are : (H ++ map Out (before ++ Start v.number c j hop launch ∷ [])) ++ map Out after ≡ H ++ map Out (before ++ (Start v.number c j hop launch ∷ after))
  items-are =
      append_assoc H (map Out (before ++ Start v.number c j hop launch ∷ [])) (map Out after)
      ∙ ap (λ more. H ++ more) (sym (map-append Out (before ++ Start v.number c j hop launch ∷ []) after))
      ∙ ap (λ acts. H ++ map Out acts) (append_assoc before (Start v.number c j hop launch ∷ []) after)

  none : (test : ℕ → Item → Bool) → ((n : ℕ) (y : Item) → test n y ≡ true → names_child n y ≡ true) → test v.number (Out (Start v.number c j hop launch)) ≡ false
      → given (test v.number) (before ++ (Start v.number c j hop launch ∷ after)) ≡ 0
  none test names isnt = none_given (test v.number) (before ++ (Start v.number c j hop launch ∷ after)) (joined (test v.number) v.number s.conn before after (Start v.number c j hop launch) (names v.number) isnt a b)

  due : child_acts (run_in s v) may H (before ++ (Start v.number c j hop launch ∷ after)) ((H ++ map Out (before ++ Start v.number c j hop launch ∷ [])) ++ map Out after) ≡ true
  due = no_acts (run_in s v) may H (before ++ (Start v.number c j hop launch ∷ after)) ((H ++ map Out (before ++ Start v.number c j hop launch ∷ [])) ++ map Out after) (sym known.started ∙ off)
      (none is_end_input end_input_names refl) (none is_kill kill_names refl) (none is_release release_names refl) (none is_want_child want_names refl)

  started_well : ChildGood (run_in s v) may H (before ++ (Start v.number c j hop launch ∷ after)) (H ++ map Out (before ++ (Start v.number c j hop launch ∷ after)))
  started_well = subst (λ items. ChildGood (run_in s v) may H (before ++ (Start v.number c j hop launch ∷ after)) items) items-are (record {
    account = good.account;
    bodies = good.bodies;
    acts_due = due;
    feeds = good.feeds;
    handles_decided = good.handles_decided;
    lingers = good.lingers;
    stops = good.stops;
  })

pub starts_are_good : StartsAreGood
starts_are_good s still may v H before after c j hop launch k off a b = started_well s still may v H before after c j hop launch k off a b
