-- The acts that a run gives may each come when they come, and with them all rules on the child hold.
use Rattle.std.proofs.Common.{◌≡◌, List, [], ◌∷◌, ◌++◌, Bool, true, false, ◌||◌, ◌&&◌, refl, sym, ◌∙◌, ap, arith, append-nil, append_assoc, subst, map}
use Rattle.std.specs.Prelude.{◌==◌, not, is_some}
use Rattle.std.proofs.lemmas.Bool.{and_parts, not-true, eq-eqb, eqb-true}
use Rattle.host_trace.specs.declared.items.Act.{Act}
use Rattle.host_trace.specs.declared.items.Act.TheVariants.{Feed, EndInput, Kill, Release, WantChild}
use Rattle.host_trace.specs.declared.items.Item.{Item}
use Rattle.host_trace.specs.declared.items.Item.TheVariants.{Out}
use Rattle.host_trace.specs.Fits.{is_piece}
use Rattle.host_trace.specs.Kinds.{is_start, is_feed, is_end_input, is_want_child, input_fed}
use Rattle.host_trace.specs.Told.{when}
use Rattle.host_trace.specs.Decider.{is_websocket}
use Rattle.trace_child.specs.Words.{is_filled}
use Rattle.trace_child.specs.ChildGood.{ChildGood}
use Rattle.child_core.specs.View.{View, plain, noted, without}
use Rattle.child_core.specs.Due.{is_feed_due, is_input_due, is_kill_due, is_release_due, is_ask_due, wants_input_end, wants_kill, wants_release, wants_output, is_at_rest, piece_of, feeding, feed_given, input_given, kill_given, release_given, acting, acted}
use Rattle.child_core.specs.Setting.{Setting, run_in}
use Rattle.child_core.specs.Knows.{KnowsRun, Admits}
use Rattle.child_core.specs.Walk.{MayAct, Walk, walked, Deserved}
use Rattle.child_core.specs.Laws.{IsStill}
use Rattle.child_core.proofs.EndLaws.{Knows-walk, good_at_end}
use Rattle.child_core.proofs.ActLaws.{and_false, piece_rest, piece_is, given_feed, given_input, given_kill, given_release, walked-append, walked-acting, acted-rest, acted-deserved}

module _ (early : Bool) (s : Setting) (still : IsStill s) where
  act_with : (v : View) (L : List Item) (a : Act) → KnowsRun early s v L → is_start v.number (Out a) ≡ false → (is_want_child v.number (Out a) ≡ true → v.asked ≡ false) →
      (is_feed v.number (Out a) ≡ true → (is_some v.outcome || v.input_ended) ≡ false) → input_fed v.number (Out a) ++ without (input_fed v.number (Out a)) v.unfed ≡ v.unfed →
      (is_websocket v.kind ≡ false → is_feed v.number (Out a) ≡ true → (v.untaken ≡ 0) × (is_piece (input_fed v.number (Out a)) ≡ true)) →
      (is_end_input v.number (Out a) ≡ true → wants_input_end v ≡ true) → Admits early s v L plain (Out a)
  act_with v L a k start asks feeds front in_turn deserved = record {
    start = start;
    begins = λ e. absurd (cc);
    exits = λ e. absurd (cc);
    asks = asks;
    answers = λ e. absurd (cc);
    eof = λ e. absurd (cc);
    takes = omega arith;
    feeds = feeds;
    front = front;
    in_turn = in_turn;
    deserved = λ _ e. deserved e;
    refused = λ w. sym (and_false _);
    body = ap (λ o. o.body) (still L a) ∙ sym (append-nil _);
    whole = λ w. ap (λ o. o.whole) (still L a);
    done = λ w e. refl;
    talk = λ w. ap (λ o. o.whole) (still L a) ∙ k.talk w;
  }

  pub may_feed : (v : View) (L : List Item) → KnowsRun early s v L → is_feed_due v ≡ true → MayAct early s v L (Feed v.number (piece_of v))
  may_feed v L k due =
      let p = and_parts (v.started && not (is_some v.outcome) && not v.exited && not v.input_ended && is_filled v.unfed) (v.untaken == 0) due in
      let q = and_parts (v.started && not (is_some v.outcome) && not v.exited && not v.input_ended) (is_filled v.unfed) p.0 in
      let r = and_parts (v.started && not (is_some v.outcome) && not v.exited) (not v.input_ended) q.0 in
      let t = and_parts (v.started && not (is_some v.outcome)) (not v.exited) r.0 in
      let u = and_parts v.started (not (is_some v.outcome)) t.0 in
      let same : input_fed v.number (Out (Feed v.number (piece_of v))) ≡ piece_of v = rw (eq-eqb v.number v.number refl) refl in
      record {
        admits = act_with v L (Feed v.number (piece_of v)) k refl (λ e. absurd (cc))
            (λ _. rw (not-true _ u.1, not-true _ r.1) refl) (rw same (piece_rest v))
            (λ ws _. (eqb-true v.untaken 0 p.1, rw same (piece_is v ws q.1))) (λ e. absurd (cc));
        input = λ e. absurd (cc);
        kill = λ e. absurd (cc);
        release = λ e. absurd (cc);
      }

  pub may_end : (v : View) (L : List Item) → KnowsRun early s v L → is_input_due v ≡ true → MayAct early s v L (EndInput v.number)
  may_end v L k due =
      let p = and_parts (wants_input_end v) (not v.input_ended) due in
      record {
        admits = act_with v L (EndInput v.number) k refl (λ e. absurd (cc)) (λ e. absurd (cc)) refl (λ ws e. absurd (cc)) (λ _. p.0);
        input = λ _. not-true _ p.1;
        kill = λ e. absurd (cc);
        release = λ e. absurd (cc);
      }

  pub may_kill : (v : View) (L : List Item) → KnowsRun early s v L → is_kill_due v ≡ true → MayAct early s v L (Kill v.number)
  may_kill v L k due = record {
    admits = act_with v L (Kill v.number) k refl (λ e. absurd (cc)) (λ e. absurd (cc)) refl (λ ws e. absurd (cc)) (λ e. absurd (cc));
    input = λ e. absurd (cc);
    kill = λ _. not-true _ (and_parts (wants_kill v) (not v.killed) due).1;
    release = λ e. absurd (cc);
  }

  pub may_release : (v : View) (L : List Item) → KnowsRun early s v L → is_release_due v ≡ true → MayAct early s v L (Release v.number)
  may_release v L k due = record {
    admits = act_with v L (Release v.number) k refl (λ e. absurd (cc)) (λ e. absurd (cc)) refl (λ ws e. absurd (cc)) (λ e. absurd (cc));
    input = λ e. absurd (cc);
    kill = λ e. absurd (cc);
    release = λ _. not-true _ (and_parts (wants_release v) (not v.output_ended) due).1;
  }

  pub may_ask : (may : Bool) (v : View) (L : List Item) → KnowsRun early s v L → is_ask_due may v ≡ true → MayAct early s v L (WantChild v.number)
  may_ask may v L k due = record {
    admits = act_with v L (WantChild v.number) k refl (λ _. not-true _ (and_parts (wants_output may v) (not v.asked) due).1) (λ e. absurd (cc)) refl (λ ws e. absurd (cc)) (λ e. absurd (cc));
    input = λ e. absurd (cc);
    kill = λ e. absurd (cc);
    release = λ e. absurd (cc);
  }

  walk_when : (v : View) (L : List Item) (t : Bool) (a : Act) → (t ≡ true → MayAct early s v L a) → Walk early s v L (when t a)
  walk_when v L true a f = (f refl, tt)
  walk_when v L false a f = tt

  pub walk_append : (v : View) (L : List Item) (xs ys : List Act) → Walk early s v L xs → Walk early s (walked s v xs) (L ++ map Out xs) ys → Walk early s v L (xs ++ ys)
  walk_append v L [] ys p q = subst (λ l. Walk early s v l ys) (append-nil L) q
  walk_append v L (a ∷ xs) ys p q =
      (p.0, walk_append (noted s.conn v plain (Out a)) (L ++ Out a ∷ []) xs ys p.1 (subst (λ l. Walk early s (walked s v (a ∷ xs)) l ys) (sym (append_assoc L (Out a ∷ []) (map Out xs))) q))

  -- one more act, where it is due
  walk_more : (v u : View) (L : List Item) (xs : List Act) (t : Bool) (a : Act) → KnowsRun early s v L → Walk early s v L xs → walked s v xs ≡ u →
      ((M : List Item) → KnowsRun early s u M → t ≡ true → MayAct early s u M a) → Walk early s v L (xs ++ when t a)
  walk_more v u L xs t a k p e f =
      let known : KnowsRun early s u (L ++ map Out xs) = subst (λ w. KnowsRun early s w (L ++ map Out xs)) e (Knows-walk early s v L xs k p) in
      walk_append v L xs (when t a) p (subst (λ w. Walk early s w (L ++ map Out xs) (when t a)) (sym e) (walk_when u (L ++ map Out xs) t a (f (L ++ map Out xs) known)))

  pub walk-acting : (may : Bool) (v : View) (L : List Item) → KnowsRun early s v L → Walk early s v L (acting may v)
  unfolding acting
  walk-acting may v L k =
      let v1 = feed_given v in
      let v2 = input_given v1 in
      let v3 = kill_given v2 in
      let v4 = release_given v3 in
      let w1 = feeding v in
      let w2 = when (is_input_due v1) (EndInput v.number) in
      let w3 = when (is_kill_due v2) (Kill v.number) in
      let w4 = when (is_release_due v3) (Release v.number) in
      let e1 : walked s v w1 ≡ v1 = given_feed s v (is_feed_due v) in
      let e2 : walked s v (w1 ++ w2) ≡ v2 = walked-append s v w1 w2 ∙ (ap (λ w. walked s w w2) e1 ∙ given_input s v1 (is_input_due v1)) in
      let e3 : walked s v (w1 ++ w2 ++ w3) ≡ v3 = walked-append s v (w1 ++ w2) w3 ∙ (ap (λ w. walked s w w3) e2 ∙ given_kill s v2 (is_kill_due v2)) in
      let e4 : walked s v (w1 ++ w2 ++ w3 ++ w4) ≡ v4 = walked-append s v (w1 ++ w2 ++ w3) w4 ∙ (ap (λ w. walked s w w4) e3 ∙ given_release s v3 (is_release_due v3)) in
      let p1 = walk_when v L (is_feed_due v) (Feed v.number (piece_of v)) (may_feed v L k) in
      let p2 = walk_more v v1 L w1 (is_input_due v1) (EndInput v.number) k p1 e1 (λ M m. may_end v1 M m) in
      let p3 = walk_more v v2 L (w1 ++ w2) (is_kill_due v2) (Kill v.number) k p2 e2 (λ M m. may_kill v2 M m) in
      let p4 = walk_more v v3 L (w1 ++ w2 ++ w3) (is_release_due v3) (Release v.number) k p3 e3 (λ M m. may_release v3 M m) in
      walk_more v v4 L (w1 ++ w2 ++ w3 ++ w4) (is_ask_due may v4) (WantChild v.number) k p4 e4 (λ M m. may_ask may v4 M m)

-- with the acts of a run that its list knows, all rules on its child hold
pub good-acting : (s : Setting) → IsStill s → (may : Bool) (v : View) (H : List Item) → KnowsRun false s v H → ChildGood (run_in s (acted may v)) may H (acting may v) (H ++ map Out (acting may v))
good-acting s still may v H k =
    let w = walk-acting false s still may v H k in
    let e = walked-acting s may v in
    subst (λ u. ChildGood (run_in s u) may H (acting may v) (H ++ map Out (acting may v))) e
    (good_at_end false may s v H (acting may v) k w (Knows-walk false s v H (acting may v) k w)
    (subst (λ u. is_at_rest may u ≡ true) (sym e) (acted-rest may v))
    (subst (λ u. Deserved may v u) (sym e) (acted-deserved may v)))
