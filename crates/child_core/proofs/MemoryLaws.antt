-- The acts of a run one by one, and the step in which memory ran out.
use Rattle.std.proofs.Common.{◌≤◌, zero, suc, length, take, drop, ◌≡◌, ℕ, arith, List, [], ◌∷◌, ◌++◌, Bool, true, false, ◌||◌, ◌&&◌, refl, sym, ◌∙◌, ap, Option, Some, None, append_assoc, subst, inl, inr, map}
use Rattle.std.specs.Prelude.{min, if◌then◌else◌, ◌==◌, not, is_some}
use Rattle.std.specs.List.{list_any}
use Rattle.std.proofs.lemmas.Bool.{cases_Bool, and_parts, and_from, or_cases, or_left, or_right, not-true, false≢true, eq-eqb}
use Rattle.std.proofs.lemmas.List.{map-append}
use Rattle.host_trace.specs.declared.items.Act.{Act}
use Rattle.host_trace.specs.declared.items.Act.TheVariants.{Feed, EndInput, Kill, Release, WantChild, Shut}
use Rattle.host_trace.specs.declared.items.Item.{Item}
use Rattle.host_trace.specs.declared.items.Item.TheVariants.{Out}
use Rattle.host_trace.specs.declared.items.Why.TheVariants.{NoMemory}
use Rattle.host_trace.specs.First.{or_else}
use Rattle.host_trace.specs.Kinds.{input_fed, is_start, is_feed, is_want_child, is_end_input, is_no_memory}
use Rattle.host_trace.specs.Projections.{shut_for_memory}
use Rattle.host_trace.specs.Told.{when}
use Rattle.host_trace.specs.Decider.{is_websocket}
use Rattle.host_trace.proofs.ProjectionLaws.{shut_for_memory-push}
use Rattle.trace_child.specs.Words.{implies, is_filled}
use Rattle.trace_child.specs.Bodies.{is_excused, owes_whole}
use Rattle.trace_child.specs.ChildDemands.{is_fed_whole as is_body_fed}
use Rattle.trace_child.specs.ChildForm.{may_be_given}
use Rattle.trace_child.specs.ChildGood.{ChildGood}
use Rattle.child_core.specs.declared.ending.Ending.TheVariants.{Dropped}
use Rattle.child_core.specs.declared.ending.Outcome.{Outcome}
use Rattle.child_core.specs.declared.ending.Outcome.TheVariants as Ended
use Rattle.child_core.specs.View.{View, Note, plain, noted, is_output, is_other, without, more_by}
use Rattle.child_core.specs.Calls.{ended}
use Rattle.child_core.specs.Due.{Due, Path, given, after, is_feed_due, is_input_due, is_kill_due, is_release_due, is_ask_due, wants_input_end, wants_kill, wants_release, wants_output, is_at_rest, piece_len, piece_of, feeding, feed_given, input_given, kill_given, release_given, acting, acted}
use Rattle.child_core.specs.Setting.{Setting, run_in}
use Rattle.child_core.specs.Knows.{KnowsRun, Admits}
use Rattle.child_core.specs.Walk.{MayAct, Walk, walked, Deserved}
use Rattle.child_core.specs.Laws.{IsStill}
use Rattle.child_core.specs.Memory.{AreDue, Piece, last_acts}
use Rattle.child_core.proofs.KnowsLaws.{Knows-noted}
use Rattle.child_core.proofs.EndLaws.{wanted_is, Knows-walk, good_at_end}
use Rattle.child_core.proofs.ActLaws.{and_false, or_none, len_take, piece_filled, walked-append, acted-rest, acted-deserved}
use Rattle.child_core.proofs.StepLaws.{may_feed, may_end, may_kill, may_release, may_ask, walk_append}
use Rattle.child_core.proofs.CallLaws.{memory-is}
use Rattle.child_core.proofs.TellLaws.{other-admits, still-offers}

-- ---- the acts one by one

path_when : (may : Bool) (v : View) (t : Bool) (a : Act) → (t ≡ true → Due may v a) → Path may v (when t a)
path_when may v true a f = (f refl, tt)
path_when may v false a f = tt

path_append : (may : Bool) (v : View) (xs ys : List Act) → Path may v xs → Path may (after v xs) ys → Path may v (xs ++ ys)
path_append may v [] ys p q = q
path_append may v (a ∷ xs) ys p q = (p.0, path_append may (given v a) xs ys p.1 q)

after-append : (v : View) (xs ys : List Act) → after v (xs ++ ys) ≡ after (after v xs) ys
after-append v [] ys = refl
after-append v (a ∷ xs) ys = after-append (given v a) xs ys

module _ (v : View) where
  after_feed : (t : Bool) → after v (when t (Feed v.number (piece_of v))) ≡ record v { unfed = without (if t then piece_of v else []) v.unfed; untaken = more_by (if t then piece_of v else []) v.untaken }
  after_feed true = rw (eq-eqb v.number v.number refl, and_false (is_websocket v.kind), and_false (not (is_some v.outcome)), or_none v.outcome) refl
  after_feed false = refl

  after_input : (t : Bool) → after v (when t (EndInput v.number)) ≡ record v { input_ended = t || v.input_ended }
  after_input true = rw (eq-eqb v.number v.number refl, and_false (is_websocket v.kind), and_false (not (is_some v.outcome)), or_none v.outcome) refl
  after_input false = refl

  after_kill : (t : Bool) → after v (when t (Kill v.number)) ≡ record v { killed = t || v.killed }
  after_kill true = rw (eq-eqb v.number v.number refl, and_false (is_websocket v.kind), and_false (not (is_some v.outcome)), or_none v.outcome) refl
  after_kill false = refl

  after_release : (t : Bool) → after v (when t (Release v.number)) ≡ record v { output_ended = t || v.output_ended }
  after_release true = rw (eq-eqb v.number v.number refl, and_false (is_websocket v.kind), and_false (not (is_some v.outcome)), or_none v.outcome) refl
  after_release false = refl

  after_ask : (t : Bool) → after v (when t (WantChild v.number)) ≡ record v { asked = t || v.asked }
  after_ask true = rw (eq-eqb v.number v.number refl, and_false (is_websocket v.kind), and_false (not (is_some v.outcome)), or_none v.outcome) refl
  after_ask false = refl

-- each act is due when it is given, and they make of the run what its contract says
pub acting-due : (may : Bool) (v : View) → AreDue may v
unfolding acting acted
acting-due may v =
    let v1 = feed_given v in
    let v2 = input_given v1 in
    let v3 = kill_given v2 in
    let v4 = release_given v3 in
    let w1 = feeding v in
    let w2 = when (is_input_due v1) (EndInput v.number) in
    let w3 = when (is_kill_due v2) (Kill v.number) in
    let w4 = when (is_release_due v3) (Release v.number) in
    let w5 = when (is_ask_due may v4) (WantChild v.number) in
    let e1 : after v w1 ≡ v1 = after_feed v (is_feed_due v) in
    let e2 : after v (w1 ++ w2) ≡ v2 = after-append v w1 w2 ∙ (ap (λ w. after w w2) e1 ∙ after_input v1 (is_input_due v1)) in
    let e3 : after v (w1 ++ w2 ++ w3) ≡ v3 = after-append v (w1 ++ w2) w3 ∙ (ap (λ w. after w w3) e2 ∙ after_kill v2 (is_kill_due v2)) in
    let e4 : after v (w1 ++ w2 ++ w3 ++ w4) ≡ v4 = after-append v (w1 ++ w2 ++ w3) w4 ∙ (ap (λ w. after w w4) e3 ∙ after_release v3 (is_release_due v3)) in
    let p1 : Path may v w1 = path_when may v (is_feed_due v) (Feed v.number (piece_of v)) (λ t. (refl, refl, t)) in
    let p2 : Path may v (w1 ++ w2) = path_append may v w1 w2 p1 (subst (λ w. Path may w w2) (sym e1) (path_when may v1 (is_input_due v1) (EndInput v.number) (λ t. (refl, t)))) in
    let p3 : Path may v (w1 ++ w2 ++ w3) = path_append may v (w1 ++ w2) w3 p2 (subst (λ w. Path may w w3) (sym e2) (path_when may v2 (is_kill_due v2) (Kill v.number) (λ t. (refl, t)))) in
    let p4 : Path may v (w1 ++ w2 ++ w3 ++ w4) = path_append may v (w1 ++ w2 ++ w3) w4 p3 (subst (λ w. Path may w w4) (sym e3) (path_when may v3 (is_release_due v3) (Release v.number) (λ t. (refl, t)))) in
    record {
      path = path_append may v (w1 ++ w2 ++ w3 ++ w4) w5 p4 (subst (λ w. Path may w w5) (sym e4) (path_when may v4 (is_ask_due may v4) (WantChild v.number) (λ t. (refl, t))));
      after_is = after-append v (w1 ++ w2 ++ w3 ++ w4) w5 ∙ (ap (λ w. after w w5) e4 ∙ after_ask v4 (is_ask_due may v4));
    }

-- a text at once, or as much of the body as a piece may be
pub piece-front : (v : View) → Piece v
piece-front v = record {
  text = λ ws. ap (λ n. take n v.unfed) (rw ws refl) ∙ take_all v.unfed;
  body = λ ws.
      let n : piece_len v ≡ min 65536 (length v.unfed) = rw ws refl in
      len_take (piece_len v) v.unfed (omega (arith, n)) ∙ n;
  front = front_of (piece_len v) v.unfed;
}
  where
    take_all : (u : List ℕ) → take (length u) u ≡ u
    take_all [] = refl
    take_all (b ∷ u) = ap (λ l. b ∷ l) (take_all u)

    front_of : (m : ℕ) (u : List ℕ) → take m u ++ drop (length (take m u)) u ≡ u
    front_of zero u = refl
    front_of (suc m) [] = refl
    front_of (suc m) (b ∷ u) = ap (λ l. b ∷ l) (front_of m u)

pub due-may : (early : Bool) (s : Setting) → IsStill s → (may : Bool) (v : View) (L : List Item) (act : Act) → KnowsRun early s v L → Due may v act → MayAct early s v L act
due-may early s still may v L (Feed k bytes) knows due = subst (λ a. MayAct early s v L a) (ap (λ j. Feed j (piece_of v)) (sym due.0) ∙ ap (λ b. Feed k b) (sym due.1)) (may_feed early s still v L knows due.2)
due-may early s still may v L (EndInput k) knows due = subst (λ j. MayAct early s v L (EndInput j)) (sym due.0) (may_end early s still v L knows due.1)
due-may early s still may v L (Kill k) knows due = subst (λ j. MayAct early s v L (Kill j)) (sym due.0) (may_kill early s still v L knows due.1)
due-may early s still may v L (Release k) knows due = subst (λ j. MayAct early s v L (Release j)) (sym due.0) (may_release early s still v L knows due.1)
due-may early s still may v L (WantChild k) knows due = subst (λ j. MayAct early s v L (WantChild j)) (sym due.0) (may_ask early s still may v L knows due.1)
due-may early s still may v L a knows due = absurd due

-- ---- what is known until the Shut

owes_nothing : (a b : Bool) (shut : Bool) → shut ≡ true → implies (a && not shut) b ≡ true
owes_nothing a b true e = ap (λ t. implies t b) (and_false a)
owes_nothing a b false e = absurd (cc)

-- what is known but for what is owed, and what is owed
with_owes : (early later : Bool) (s : Setting) (v : View) (L : List Item) → KnowsRun early s v L →
    (later ≡ false → is_websocket v.kind ≡ false → implies (owes_whole (run_in s v) L) (is_body_fed (run_in s v) L) ≡ true) → KnowsRun later s v L
with_owes early later s v L k owes = record {
  book = k.book;
  lingers = k.lingers;
  starts = k.starts;
  begun = k.begun;
  answers = k.answers;
  exits = k.exits;
  started = k.started;
  refused = k.refused;
  exited = k.exited;
  input_ended = k.input_ended;
  output_ended = k.output_ended;
  killed = k.killed;
  asked = k.asked;
  decided = k.decided;
  by_output = k.by_output;
  outcome = k.outcome;
  eof = k.eof;
  hung_up = k.hung_up;
  linger_left = k.linger_left;
  abandoned = k.abandoned;
  run_left = k.run_left;
  output_left = k.output_left;
  within = k.within;
  body = k.body;
  front = k.front;
  whole = k.whole;
  talk = k.talk;
  took = k.took;
  in_turn = k.in_turn;
  stops = k.stops;
  owes = owes;
}

pub knows-early : (early : Bool) (s : Setting) (v : View) (L : List Item) → KnowsRun false s v L → KnowsRun early s v L
knows-early early s v L k = with_owes false early s v L k (λ _ ws. k.owes refl ws)

pub knows-shut : (early : Bool) (s : Setting) (v : View) (L : List Item) → shut_for_memory L s.conn ≡ true → KnowsRun early s v L → KnowsRun false s v L
knows-shut early s v L shut k = with_owes early false s v L k
    (λ _ ws. owes_nothing (list_any (is_end_input v.number) L && not (is_excused (run_in s v) L)) (is_body_fed (run_in s v) L) (shut_for_memory L s.conn) shut)

-- ---- the run was ended, and the list has not ended it

-- of a run with this outcome
abbrev with_outcome : View → Option Outcome → View
with_outcome v o = record v { outcome = o }

without_all : (bytes : List ℕ) → without bytes [] ≡ []
without_all [] = refl
without_all (b ∷ bytes) = refl

module _ (c : ℕ) (v : View) where
  agrees : (o : Option Outcome) (act : Act) → noted c (ended (with_outcome v o) Dropped) plain (Out act) ≡ ended (noted c (with_outcome v o) plain (Out act)) Dropped
  agrees (Some d) (Shut e why) = by_why (c == e && is_no_memory why) refl
    where
      by_why : (b : Bool) → (c == e && is_no_memory why) ≡ b → noted c (ended (with_outcome v (Some d)) Dropped) plain (Out (Shut e why)) ≡ ended (noted c (with_outcome v (Some d)) plain (Out (Shut e why))) Dropped
      by_why true is = rw (is, and_false (is_websocket v.kind)) refl
      by_why false is = rw (is, and_false (is_websocket v.kind)) refl
  agrees None (Shut e why) = by_why (c == e && is_no_memory why) refl
    where
      by_why : (b : Bool) → (c == e && is_no_memory why) ≡ b → noted c (ended (with_outcome v None) Dropped) plain (Out (Shut e why)) ≡ ended (noted c (with_outcome v None) plain (Out (Shut e why))) Dropped
      by_why true is = rw (is, and_false (is_websocket v.kind)) refl
      by_why false is = rw (is, and_false (is_websocket v.kind)) refl
  agrees (Some d) (Feed k bytes) = rw (and_false (is_websocket v.kind), without_all (input_fed v.number (Out (Feed k bytes)))) refl
  agrees None (Feed k bytes) = rw (and_false (is_websocket v.kind), without_all (input_fed v.number (Out (Feed k bytes)))) refl
  agrees (Some d) act = rw (and_false (is_websocket v.kind)) refl
  agrees None act = rw (and_false (is_websocket v.kind)) refl

pub ended-agrees : (c : ℕ) (v : View) (act : Act) → noted c (ended v Dropped) plain (Out act) ≡ ended (noted c v plain (Out act)) Dropped
ended-agrees c v act = agrees c v v.outcome act

-- ---- the acts of the ended run

some_ended : (o : Option Outcome) → is_some (or_else o (Some Ended.Dropped)) ≡ true
some_ended (Some d) = refl
some_ended None = refl

module _ (s : Setting) (still : IsStill s) where
  last_with : (v : View) (L : List Item) (a : Act) → KnowsRun true s v L → is_start v.number (Out a) ≡ false → is_want_child v.number (Out a) ≡ false → is_feed v.number (Out a) ≡ false →
      input_fed v.number (Out a) ≡ [] → Admits true s v L plain (Out a)
  last_with v L a k start want feed fed_none =
      let o = still-offers true s v L a still k in
      record {
        start = start;
        begins = λ e. absurd (cc);
        exits = λ e. absurd (cc);
        asks = λ e. absurd (false≢true (sym want ∙ e));
        answers = λ e. absurd (cc);
        eof = λ e. absurd (cc);
        takes = omega arith;
        feeds = λ e. absurd (false≢true (sym feed ∙ e));
        front = rw fed_none refl;
        in_turn = λ w e. absurd (false≢true (sym feed ∙ e));
        deserved = λ e. absurd (false≢true (sym e));
        refused = o.refused;
        body = o.body;
        whole = o.whole;
        done = o.done;
        talk = o.talk;
      }

  pub ended-may : (may : Bool) (v : View) (L : List Item) (act : Act) → KnowsRun true s v L → Due may (ended v Dropped) act → MayAct true s v L act
  ended-may may v L (Feed k bytes) knows due =
      absurd (let p = and_parts _ (v.untaken == 0) due.2 in false≢true (and_parts (v.started && not (is_some (or_else v.outcome (Some Ended.Dropped))) && not v.exited && not v.input_ended) false p.0).1)
  ended-may may v L (EndInput k) knows due = record {
    admits = last_with v L (EndInput k) knows refl refl refl refl;
    input = λ _. not-true _ (and_parts (wants_input_end (ended v Dropped)) (not v.input_ended) due.1).1;
    kill = λ e. absurd (cc);
    release = λ e. absurd (cc);
  }
  ended-may may v L (Kill k) knows due = record {
    admits = last_with v L (Kill k) knows refl refl refl refl;
    input = λ e. absurd (cc);
    kill = λ _. not-true _ (and_parts (wants_kill (ended v Dropped)) (not v.killed) due.1).1;
    release = λ e. absurd (cc);
  }
  ended-may may v L (Release k) knows due = record {
    admits = last_with v L (Release k) knows refl refl refl refl;
    input = λ e. absurd (cc);
    kill = λ e. absurd (cc);
    release = λ _. not-true _ (and_parts (wants_release (ended v Dropped)) (not v.output_ended) due.1).1;
  }
  ended-may may v L (WantChild k) knows due =
      absurd (let p = and_parts (wants_output may (ended v Dropped)) (not v.asked) due.1 in
      false≢true (sym (no_output_wanted v.started (is_some (or_else v.outcome (Some Ended.Dropped))) (not v.killed) (not v.output_ended) may (some_ended v.outcome)) ∙ p.0))
    where
      no_output_wanted : (st d k o m : Bool) → d ≡ true → (st && not d && k && o && m) ≡ false
      no_output_wanted true true k o m e = refl
      no_output_wanted false true k o m e = refl
      no_output_wanted st false k o m e = absurd (cc)
  ended-may may v L a knows due = absurd due

  same_conn : (may : Bool) (u v : View) (a : Act) → Due may u a → noted 0 v plain (Out a) ≡ noted s.conn v plain (Out a)
  same_conn may u v (Feed k bytes) due = refl
  same_conn may u v (EndInput k) due = refl
  same_conn may u v (Kill k) due = refl
  same_conn may u v (Release k) due = refl
  same_conn may u v (WantChild k) due = refl
  same_conn may u v a due = absurd due

  ended-walk : (may : Bool) (v : View) (L : List Item) (acts : List Act) → KnowsRun true s v L → Path may (ended v Dropped) acts →
      Walk true s v L acts × (ended (walked s v acts) Dropped ≡ after (ended v Dropped) acts)
  ended-walk may v L [] knows p = (tt, refl)
  ended-walk may v L (a ∷ acts) knows p =
      let act : MayAct true s v L a = ended-may may v L a knows p.0 in
      let e : given (ended v Dropped) a ≡ ended (noted s.conn v plain (Out a)) Dropped = ended-agrees 0 v a ∙ ap (λ u. ended u Dropped) (same_conn may (ended v Dropped) v a p.0) in
      let r = ended-walk may (noted s.conn v plain (Out a)) (L ++ Out a ∷ []) acts (Knows-noted true s v L plain (Out a) knows act.admits) (subst (λ u. Path may u acts) e p.1) in
      ((act, r.0), r.1 ∙ ap (λ u. after u acts) (sym e))

  -- the acts of the ended run and the Shut
  record Last (may : Bool) (v : View) (L : List Item) : Type 0 where
    walk : Walk true s v L (last_acts may s v)
    is : walked s v (last_acts may s v) ≡ acted may (ended v Dropped)
    known : KnowsRun false s (acted may (ended v Dropped)) (L ++ map Out (last_acts may s v))

  last : (may : Bool) (v : View) (L : List Item) → KnowsRun true s v L → Last may v L
  last may v L knows =
      let r : View = ended v Dropped in
      let more : List Act = acting may r in
      let shut : Act = Shut s.conn NoMemory in
      let due : AreDue may r = acting-due may r in
      let w = ended-walk may v L more knows due.path in
      let u : View = walked s v more in
      let M : List Item = L ++ map Out more in
      let ku : KnowsRun true s u M = Knows-walk true s v L more knows w.0 in
      let admits : Admits true s u M plain (Out shut) = other-admits true s u M plain (Out shut) refl (still-offers true s u M shut still ku) in
      let act : MayAct true s u M shut = record { admits = admits; input = λ e. absurd (cc); kill = λ e. absurd (cc); release = λ e. absurd (cc) } in
      let z : noted s.conn u plain (Out shut) ≡ acted may r = memory-is s.conn u ∙ (w.1 ∙ due.after_is) in
      let kz : KnowsRun true s (acted may r) (M ++ Out shut ∷ []) = subst (λ x. KnowsRun true s x (M ++ Out shut ∷ [])) z (Knows-noted true s u M plain (Out shut) ku admits) in
      let stands : shut_for_memory (M ++ Out shut ∷ []) s.conn ≡ true = shut_for_memory-push M (Out shut) s.conn ∙ or_right (shut_for_memory M s.conn) _ (rw (eq-eqb s.conn s.conn refl) refl) in
      let items : M ++ Out shut ∷ [] ≡ L ++ map Out (more ++ shut ∷ []) = append_assoc L (map Out more) (Out shut ∷ []) ∙ ap (λ (l : List Item). L ++ l) (sym (map-append Out more (shut ∷ []))) in
      record {
        walk = walk_append true s still v L more (shut ∷ []) w.0 (act, tt);
        is = walked-append s v more (shut ∷ []) ∙ z;
        known = subst (KnowsRun false s (acted may r)) items (knows-shut true s (acted may r) (M ++ Out shut ∷ []) stands kz);
      }

pub ended-known : (early : Bool) (s : Setting) → IsStill s → (may : Bool) (v : View) (L : List Item) → KnowsRun early s v L → KnowsRun false s (acted may (ended v Dropped)) (L ++ map Out (last_acts may s v))
ended-known early s still may v L k = (last s still may v L (with_owes early true s v L k (λ e. absurd (false≢true (sym e))))).known

-- ---- all rules on the child at the end of the step

admits_early : (s : Setting) (v : View) (L : List Item) (n : Note) (x : Item) → Admits false s v L n x → Admits true s v L n x
admits_early s v L n x a = record {
  start = a.start;
  begins = a.begins;
  exits = a.exits;
  asks = a.asks;
  answers = a.answers;
  eof = a.eof;
  takes = a.takes;
  feeds = a.feeds;
  front = a.front;
  in_turn = a.in_turn;
  refused = a.refused;
  body = a.body;
  whole = a.whole;
  done = a.done;
  talk = a.talk;
  deserved = λ e. absurd (false≢true (sym e));
}

walk_early : (s : Setting) (v : View) (L : List Item) (acts : List Act) → Walk false s v L acts → Walk true s v L acts
walk_early s v L [] w = tt
walk_early s v L (a ∷ acts) w =
    (record { admits = admits_early s v L plain (Out a) w.0.admits; input = w.0.input; kill = w.0.kill; release = w.0.release }, walk_early s (noted s.conn v plain (Out a)) (L ++ Out a ∷ []) acts w.1)

same_run : (s : Setting) (v : View) (acts : List Act) → run_in s (walked s v acts) ≡ run_in s v
same_run s v [] = refl
same_run s v (a ∷ acts) = same_run s (noted s.conn v plain (Out a)) acts

-- an ended run is given up: its child is killed as soon as may be
given_up : (o : Option Outcome) (alone left : Bool) → (is_other (or_else o (Some Ended.Dropped)) || alone || is_output (or_else o (Some Ended.Dropped)) && (left || true)) ≡ true
given_up (Some Ended.Output) alone left = or_right alone _ (or_right left true refl)
given_up (Some (Ended.Failed cause)) alone left = refl
given_up (Some Ended.Gone) alone left = refl
given_up (Some Ended.Stopped) alone left = refl
given_up (Some Ended.Dropped) alone left = refl
given_up None alone left = refl

-- its output is given up, if it was to be before
released : (o : Option Outcome) (h left kd alone later : Bool) → (kd ≡ true → later ≡ true) → (is_other o || (h && not (is_some o) && left) || kd) ≡ true →
    (is_other (or_else o (Some Ended.Dropped)) || alone || later) ≡ true
released (Some Ended.Output) h left kd alone later f e = go h kd later alone f e
  where
    go : (h kd later alone : Bool) → (kd ≡ true → later ≡ true) → ((h && false && left) || kd) ≡ true → (alone || later) ≡ true
    go h true later alone f e = or_right alone later (f refl)
    go true false later alone f e = absurd (cc)
    go false false later alone f e = absurd (cc)
released (Some (Ended.Failed cause)) h left kd alone later f e = refl
released (Some Ended.Gone) h left kd alone later f e = refl
released (Some Ended.Stopped) h left kd alone later f e = refl
released (Some Ended.Dropped) h left kd alone later f e = refl
released None h left kd alone later f e = refl

not_asked : (st d k o m a : Bool) → d ≡ true → (st && not d && k && o && m && a) ≡ false
not_asked true true k o m a e = refl
not_asked false true k o m a e = refl
not_asked st false k o m a e = absurd (cc)

ended-deserved : (may : Bool) (w v : View) → Deserved may w v → (v.asked ≡ true → w.asked ≡ true) → Deserved may w (acted may (ended v Dropped))
unfolding acted
ended-deserved may w v d asked = record {
  input = λ o n. elim (cases_Bool v.input_ended) [
    | inl t ↦ and_from v.started _ (and_parts v.started _ (d.input o t)).0 (or_left _ _ (or_left _ _ (some_ended v.outcome)))
    | inr f ↦ (acted-deserved may (ended v Dropped)).input f n
  ];
  kill = λ o n. elim (cases_Bool v.killed) [
    | inl t ↦ and_from (v.started && not v.exited) _ (and_parts (v.started && not v.exited) _ (d.kill o t)).0 (given_up v.outcome _ (v.linger_left == 0))
    | inr f ↦ (acted-deserved may (ended v Dropped)).kill f n
  ];
  release = λ o n. elim (cases_Bool v.output_ended) [
    | inl t ↦
        let p = and_parts (v.started && v.exited) _ (d.release o t) in
        and_from (v.started && v.exited) _ p.0 (released v.outcome v.hung_up (v.linger_left == 0) v.killed _ _ (λ k. or_right _ v.killed k) p.1)
    | inr f ↦ (acted-deserved may (ended v Dropped)).release f n
  ];
  ask = λ o n. elim (or_cases _ v.asked n) [
    | inl due ↦ absurd (false≢true (sym (not_asked v.started (is_some (or_else v.outcome (Some Ended.Dropped))) _ _ may (not v.asked) (some_ended v.outcome)) ∙ due))
    | inr was ↦ absurd (false≢true (sym o ∙ asked was))
  ];
}

pub ended-good : (s : Setting) → IsStill s → (may : Bool) (w : View) (H : List Item) (acts : List Act) → KnowsRun false s w H → Walk false s w H acts → Deserved may w (walked s w acts) →
    ((walked s w acts).asked ≡ true → w.asked ≡ true) → ChildGood (run_in s w) may H (acts ++ last_acts may s (walked s w acts)) (H ++ map Out (acts ++ last_acts may s (walked s w acts)))
ended-good s still may w H acts k walk d asked =
    let v : View = walked s w acts in
    let L : List Item = H ++ map Out acts in
    let final : List Act = last_acts may s v in
    let kv : KnowsRun false s v L = Knows-walk false s w H acts k walk in
    let l : Last s still may v L = last s still may v L (knows-early true s v L kv) in
    let z : walked s w (acts ++ final) ≡ acted may (ended v Dropped) = walked-append s w acts final ∙ l.is in
    let items : L ++ map Out final ≡ H ++ map Out (acts ++ final) = append_assoc H (map Out acts) (map Out final) ∙ ap (λ (m : List Item). H ++ m) (sym (map-append Out acts final)) in
    let known : KnowsRun false s (walked s w (acts ++ final)) (H ++ map Out (acts ++ final)) =
    subst (λ u. KnowsRun false s u (H ++ map Out (acts ++ final))) (sym z) (subst (KnowsRun false s (acted may (ended v Dropped))) items l.known) in
    subst (λ run. ChildGood run may H (acts ++ final) (H ++ map Out (acts ++ final))) (same_run s w (acts ++ final))
    (good_at_end true may s w H (acts ++ final) (knows-early true s w H k) (walk_append true s still w H acts final (walk_early s w H acts walk) l.walk) known
    (subst (λ u. is_at_rest may u ≡ true) (sym z) (acted-rest may (ended v Dropped)))
    (subst (λ u. Deserved may w u) (sym z) (ended-deserved may w v d asked)))

-- ---- the form of the acts

filled_of : (u : List ℕ) → 1 ≤ length u → is_filled u ≡ true
filled_of [] le = absurd (omega (arith, le))
filled_of (b ∷ u) le = refl

module _ (early : Bool) (s : Setting) (v : View) (L : List Item) (k : KnowsRun early s v L) where
  feed_form : v.started ≡ true → v.input_ended ≡ false → is_filled (piece_of v) ≡ true → may_be_given L (Feed v.number (piece_of v)) ≡ true
  feed_form st i full = and_from _ _ (and_from _ _ (sym k.started ∙ st) (ap not (sym k.input_ended ∙ i))) full

  input_form : v.started ≡ true → v.input_ended ≡ false → may_be_given L (EndInput v.number) ≡ true
  input_form st i = and_from _ _ (sym k.started ∙ st) (ap not (sym k.input_ended ∙ i))

  kill_form : v.started ≡ true → v.killed ≡ false → v.exited ≡ false → may_be_given L (Kill v.number) ≡ true
  kill_form st kd e = and_from _ _ (and_from _ _ (sym k.started ∙ st) (ap not (sym k.killed ∙ kd))) (ap not (sym k.exited ∙ e))

  release_form : v.started ≡ true → v.exited ≡ true → v.output_ended ≡ false → may_be_given L (Release v.number) ≡ true
  release_form st e o = and_from _ _ (and_from _ _ (sym k.started ∙ st) (sym k.exited ∙ e)) (ap not (sym k.output_ended ∙ o))

  ask_form : v.started ≡ true → v.output_ended ≡ false → v.asked ≡ false → may_be_given L (WantChild v.number) ≡ true
  ask_form st o a = and_from _ _ (and_from _ _ (sym k.started ∙ st) (ap not (sym k.output_ended ∙ o))) (ap not (wanted_is early s v L k ∙ a))

  pub due-form : (may : Bool) (act : Act) → Due may v act → may_be_given L act ≡ true
  due-form may (Feed j bytes) due =
      let p = and_parts (v.started && not (is_some v.outcome) && not v.exited && not v.input_ended && is_filled v.unfed) (v.untaken == 0) due.2 in
      let q = and_parts (v.started && not (is_some v.outcome) && not v.exited && not v.input_ended) (is_filled v.unfed) p.0 in
      let r = and_parts (v.started && not (is_some v.outcome) && not v.exited) (not v.input_ended) q.0 in
      let t = and_parts (v.started && not (is_some v.outcome)) (not v.exited) r.0 in
      ap (λ n. may_be_given L (Feed n bytes)) due.0 ∙ (ap (λ b. may_be_given L (Feed v.number b)) due.1
      ∙ feed_form (and_parts v.started (not (is_some v.outcome)) t.0).0 (not-true _ r.1) (filled_of (piece_of v) (piece_filled v q.1)))
  due-form may (EndInput j) due =
      let p = and_parts (wants_input_end v) (not v.input_ended) due.1 in
      ap (λ n. may_be_given L (EndInput n)) due.0 ∙ input_form (and_parts v.started _ p.0).0 (not-true _ p.1)
  due-form may (Kill j) due =
      let p = and_parts (wants_kill v) (not v.killed) due.1 in
      let q = and_parts v.started (not v.exited) (and_parts (v.started && not v.exited) _ p.0).0 in
      ap (λ n. may_be_given L (Kill n)) due.0 ∙ kill_form q.0 (not-true _ p.1) (not-true _ q.1)
  due-form may (Release j) due =
      let p = and_parts (wants_release v) (not v.output_ended) due.1 in
      let q = and_parts v.started v.exited (and_parts (v.started && v.exited) _ p.0).0 in
      ap (λ n. may_be_given L (Release n)) due.0 ∙ release_form q.0 q.1 (not-true _ p.1)
  due-form may (WantChild j) due =
      let p = and_parts (wants_output may v) (not v.asked) due.1 in
      let q = and_parts (v.started && not (is_some v.outcome) && not v.killed && not v.output_ended) may p.0 in
      let r = and_parts (v.started && not (is_some v.outcome) && not v.killed) (not v.output_ended) q.0 in
      let t = and_parts (v.started && not (is_some v.outcome)) (not v.killed) r.0 in
      ap (λ n. may_be_given L (WantChild n)) due.0 ∙ ask_form (and_parts v.started (not (is_some v.outcome)) t.0).0 (not-true _ r.1) (not-true _ p.1)
  due-form may act due = absurd due

  pub ended-form : (may : Bool) (act : Act) → Due may (ended v Dropped) act → may_be_given L act ≡ true
  ended-form may (Feed j bytes) due =
      absurd (let p = and_parts _ (v.untaken == 0) due.2 in false≢true (and_parts (v.started && not (is_some (or_else v.outcome (Some Ended.Dropped))) && not v.exited && not v.input_ended) false p.0).1)
  ended-form may (EndInput j) due =
      let p = and_parts (wants_input_end (ended v Dropped)) (not v.input_ended) due.1 in
      ap (λ n. may_be_given L (EndInput n)) due.0 ∙ input_form (and_parts v.started _ p.0).0 (not-true _ p.1)
  ended-form may (Kill j) due =
      let p = and_parts (wants_kill (ended v Dropped)) (not v.killed) due.1 in
      let q = and_parts v.started (not v.exited) (and_parts (v.started && not v.exited) _ p.0).0 in
      ap (λ n. may_be_given L (Kill n)) due.0 ∙ kill_form q.0 (not-true _ p.1) (not-true _ q.1)
  ended-form may (Release j) due =
      let p = and_parts (wants_release (ended v Dropped)) (not v.output_ended) due.1 in
      let q = and_parts v.started v.exited (and_parts (v.started && v.exited) _ p.0).0 in
      ap (λ n. may_be_given L (Release n)) due.0 ∙ release_form q.0 q.1 (not-true _ p.1)
  ended-form may (WantChild j) due =
      let p = and_parts (wants_output may (ended v Dropped)) (not v.asked) due.1 in
      let q = and_parts (v.started && not (is_some (or_else v.outcome (Some Ended.Dropped))) && not v.killed && not v.output_ended) may p.0 in
      let r = and_parts (v.started && not (is_some (or_else v.outcome (Some Ended.Dropped))) && not v.killed) (not v.output_ended) q.0 in
      let t = and_parts (v.started && not (is_some (or_else v.outcome (Some Ended.Dropped)))) (not v.killed) r.0 in
      ap (λ n. may_be_given L (WantChild n)) due.0 ∙ ask_form (and_parts v.started (not (is_some (or_else v.outcome (Some Ended.Dropped)))) t.0).0 (not-true _ r.1) (not-true _ p.1)
  ended-form may act due = absurd due
