-- A step in which the acts that are due for a child stand among acts on others.
use Rattle.std.proofs.Common.{◌≡◌, ℕ, Bool, true, false, List, [], ◌∷◌, ◌++◌, map, refl, sym, ap, subst, ◌∙◌}
use Rattle.std.specs.Prelude.{◌||◌}
use Rattle.std.proofs.lemmas.Bool.{false≢true, or_parts}
use Rattle.std.proofs.lemmas.List.{append_assoc, append-nil}
use Rattle.host_trace.specs.declared.items.Act.{Act}
use Rattle.host_trace.specs.declared.items.Item.{Item}
use Rattle.host_trace.specs.declared.items.Item.TheVariants.{Out}
use Rattle.host_trace.specs.Kinds.{names_child, is_end_input, is_kill, is_release, is_tick, is_client_eof, is_ws_closed}
use Rattle.host_trace.specs.declared.items.Act.TheVariants.{Release}
use Rattle.host_trace.specs.Decider.{ends_connection}
use Rattle.trace_child.specs.ChildGood.{ChildGood}
use Rattle.child_core.specs.View.{View, plain, noted}
use Rattle.child_core.specs.Due.{acting, acted, is_at_rest}
use Rattle.child_core.specs.Setting.{Setting, run_in}
use Rattle.child_core.specs.Knows.{KnowsRun}
use Rattle.child_core.specs.Laws.{IsStill}
use Rattle.child_core.specs.Tells.{concerns}
use Rattle.child_core.specs.Walk.{MayAct, Walk, walked, Deserved}
use Rattle.child_core.proofs.ActLaws.{walked-acting, acted-rest, acted-deserved}
use Rattle.child_core.proofs.EndLaws.{Knows-walk, good_at_end}
use Rattle.child_core.proofs.StepLaws.{walk-acting}
use Rattle.child_core.proofs.TellLaws.{noted-other, other-admits, still-offers, Knows-other}
use Rattle.child_core.proofs.WordLaws.{end_input_names, kill_names}
use Rattle.front_children.specs.Steps.{AreApart, IsGoodStep, StepsAreGood}

-- ---- acts on others

pub names_of : (c k : ℕ) (x : Item) → concerns c k x ≡ false → names_child k x ≡ false
names_of c k x e =
    let p = or_parts (names_child k x || is_tick x || is_client_eof c x || is_ws_closed c x) (ends_connection c x) e in
    let q = or_parts (names_child k x || is_tick x || is_client_eof c x) (is_ws_closed c x) p.0 in
    let r = or_parts (names_child k x || is_tick x) (is_client_eof c x) q.0 in
    (or_parts (names_child k x) (is_tick x) r.0).0

never : (test : ℕ → Item → Bool) (k : ℕ) (x : Item) {A : Type 0} → ((j : ℕ) (y : Item) → test j y ≡ true → names_child j y ≡ true) → names_child k x ≡ false → test k x ≡ true → A
never test k x names e is = absurd (false≢true (sym e ∙ names k x is))

pub release_names : (k : ℕ) (x : Item) → is_release k x ≡ true → names_child k x ≡ true
release_names k (Out (Release d)) e = e
release_names k _ e = absurd (cc)

module _ (s : Setting) (still : IsStill s) where
  may-apart : (v : View) (L : List Item) (act : Act) → KnowsRun false s v L → concerns s.conn v.number (Out act) ≡ false → MayAct false s v L act
  may-apart v L act k e =
      let m = names_of s.conn v.number (Out act) e in
      record {
        admits = other-admits false s v L plain (Out act) m (still-offers false s v L act still k);
        input = λ is. never is_end_input v.number (Out act) end_input_names m is;
        kill = λ is. never is_kill v.number (Out act) kill_names m is;
        release = λ is. never is_release v.number (Out act) release_names m is;
      }

  pub walk-apart : (v : View) (L : List Item) (acts : List Act) → KnowsRun false s v L → AreApart s.conn v.number acts → Walk false s v L acts × (walked s v acts ≡ v)
  walk-apart v L [] k a = (tt, refl)
  walk-apart v L (act ∷ acts) k a =
      let same = noted-other s.conn v (Out act) a.0 in
      let known = Knows-other false s v L (Out act) k a.0 (still-offers false s v L act still k) in
      let later = walk-apart v (L ++ Out act ∷ []) acts known a.1 in
      ((may-apart v L act k a.0, subst (λ w. Walk false s w (L ++ Out act ∷ []) acts) (sym same) later.0), ap (λ w. walked s w acts) same ∙ later.1)

  -- ---- one run of acts after another

  walked-append : (v : View) (xs ys : List Act) → walked s v (xs ++ ys) ≡ walked s (walked s v xs) ys
  walked-append v [] ys = refl
  walked-append v (x ∷ xs) ys = walked-append (noted s.conn v plain (Out x)) xs ys

  walk-append : (v : View) (L : List Item) (xs ys : List Act) → Walk false s v L xs → Walk false s (walked s v xs) (L ++ map Out xs) ys → Walk false s v L (xs ++ ys)
  walk-append v L [] ys front back = subst (λ M. Walk false s v M ys) (append-nil L) back
  walk-append v L (x ∷ xs) ys front back = (
    front.0,
    walk-append (noted s.conn v plain (Out x)) (L ++ Out x ∷ []) xs ys front.1
        (subst (λ M. Walk false s (walked s (noted s.conn v plain (Out x)) xs) M ys) (sym (append_assoc L (Out x ∷ []) (map Out xs))) back),
  )

  same-number : (v : View) (acts : List Act) → (walked s v acts).number ≡ v.number
  same-number v [] = refl
  same-number v (a ∷ acts) = same-number (noted s.conn v plain (Out a)) acts

  -- ---- the step

  module _ (may : Bool) (v : View) (H : List Item) (before after : List Act) (k : KnowsRun false s v H) (a : AreApart s.conn v.number before) (b : AreApart s.conn v.number after) where
    first : Walk false s v H before × (walked s v before ≡ v)
    first = walk-apart v H before k a

    known-first : KnowsRun false s v (H ++ map Out before)
    known-first = subst (λ w. KnowsRun false s w (H ++ map Out before)) first.1 (Knows-walk false s v H before k first.0)

    second : Walk false s v (H ++ map Out before) (acting may v)
    second = walk-acting false s still may v (H ++ map Out before) known-first

    served : List Item
    served = H ++ map Out before ++ map Out (acting may v)

    known-second : KnowsRun false s (acted may v) (H ++ map Out before ++ map Out (acting may v))
    known-second = subst (λ w. KnowsRun false s w (H ++ map Out before ++ map Out (acting may v))) (walked-acting s may v) (Knows-walk false s v (H ++ map Out before) (acting may v) known-first second)

    number-is : v.number ≡ (acted may v).number
    number-is = sym (ap (λ (w : View). w.number) (sym (walked-acting s may v)) ∙ same-number v (acting may v))

    third : Walk false s (acted may v) (H ++ map Out before ++ map Out (acting may v)) after × (walked s (acted may v) after ≡ acted may v)
    third = walk-apart (acted may v) (H ++ map Out before ++ map Out (acting may v)) after known-second (subst (λ n. AreApart s.conn n after) number-is b)

    rest-walk : Walk false s v (H ++ map Out before) (acting may v ++ after)
    rest-walk = walk-append v (H ++ map Out before) (acting may v) after second
        (subst (λ w. Walk false s w (H ++ map Out before ++ map Out (acting may v)) after) (sym (walked-acting s may v)) third.0)

    whole-walk : Walk false s v H (before ++ (acting may v ++ after))
    whole-walk = walk-append v H before (acting may v ++ after) first.0
        (subst (λ w. Walk false s w (H ++ map Out before) (acting may v ++ after)) (sym first.1) rest-walk)

    end-is : walked s v (before ++ (acting may v ++ after)) ≡ acted may v
    end-is =
        walked-append v before (acting may v ++ after)
        ∙ ap (λ w. walked s w (acting may v ++ after)) first.1
        ∙ walked-append v (acting may v) after
        ∙ ap (λ w. walked s w after) (walked-acting s may v)
        ∙ third.1

    known-end : KnowsRun false s (acted may v) (H ++ map Out (before ++ (acting may v ++ after)))
    known-end = subst (λ w. KnowsRun false s w (H ++ map Out (before ++ (acting may v ++ after)))) end-is (Knows-walk false s v H (before ++ (acting may v ++ after)) k whole-walk)

    good-step : IsGoodStep s may v H (before ++ (acting may v ++ after))
    good-step = record {
      good = subst (λ w. ChildGood (run_in s w) may H (before ++ (acting may v ++ after)) (H ++ map Out (before ++ (acting may v ++ after)))) end-is
          (good_at_end false may s v H (before ++ (acting may v ++ after)) k whole-walk
          (subst (λ w. KnowsRun false s w (H ++ map Out (before ++ (acting may v ++ after)))) (sym end-is) known-end)
          (subst (λ w. is_at_rest may w ≡ true) (sym end-is) (acted-rest may v))
          (subst (λ w. Deserved may v w) (sym end-is) (acted-deserved may v)));
      knows = known-end;
    }

pub steps_are_good : StepsAreGood
steps_are_good s still may v H before after k a b = good-step s still may v H before after k a b
