-- The acts of a run, one after another.
use Rattle.std.proofs.Common.{◌≡◌, ℕ, zero, suc, ◌+◌, ◌≤◌, List, [], ◌∷◌, ◌++◌, Bool, true, false, ◌||◌, ◌&&◌, refl, sym, ◌∙◌, ap, arith, Option, Some, None, length, take, drop, inl, inr}
use Rattle.std.specs.Prelude.{if◌then◌else◌, ◌==◌, not, is_some, min}
use Rattle.std.proofs.lemmas.Bool.{cases_Bool, and_parts, and_from, false≢true, eq-eqb, le-leb, lt-ltb, ne_eqb}
use Rattle.host_trace.specs.declared.items.Act.{Act}
use Rattle.host_trace.specs.declared.items.Act.TheVariants.{Feed, EndInput, Kill, Release, WantChild}
use Rattle.host_trace.specs.declared.items.Item.TheVariants.{Out}
use Rattle.host_trace.specs.First.{or_else}
use Rattle.host_trace.specs.Fits.{is_piece}
use Rattle.host_trace.specs.Told.{when}
use Rattle.host_trace.specs.Decider.{is_websocket}
use Rattle.trace_child.specs.Words.{is_filled}
use Rattle.child_core.specs.View.{View, plain, noted, without, more_by}
use Rattle.child_core.specs.Due.{is_feed_due, is_input_due, is_kill_due, is_release_due, is_ask_due, wants_input_end, wants_kill, wants_release, wants_output, piece_len, piece_of, fed, feeding, feed_given, input_given, kill_given, release_given, acted, acting, is_at_rest}
use Rattle.child_core.specs.Setting.{Setting}
use Rattle.child_core.specs.Walk.{walked, Deserved}

pub and_false : (b : Bool) → (b && false) ≡ false
and_false true = refl
and_false false = refl

pub or_none : {X : Type 0} (o : Option X) → or_else o None ≡ o
or_none None = refl
or_none (Some x) = refl

-- ---- the piece

take_rest : (m : ℕ) (u : List ℕ) → take m u ++ drop m u ≡ u
take_rest zero u = refl
take_rest (suc m) [] = refl
take_rest (suc m) (b ∷ u) = ap (λ l. b ∷ l) (take_rest m u)

drop_own : (f r : List ℕ) → drop (length f) (f ++ r) ≡ r
drop_own [] r = refl
drop_own (b ∷ f) r = drop_own f r

without_own : (f r u : List ℕ) → f ++ r ≡ u → f ++ without f u ≡ u
without_own [] r u e = refl
without_own (b ∷ f) r u e = ap (λ l. (b ∷ f) ++ l) (ap (λ l. drop (length (b ∷ f)) l) (sym e) ∙ drop_own (b ∷ f) r) ∙ e

pub piece_rest : (v : View) → piece_of v ++ without (piece_of v) v.unfed ≡ v.unfed
piece_rest v = without_own (piece_of v) (drop (piece_len v) v.unfed) v.unfed (take_rest (piece_len v) v.unfed)

pub len_take : (m : ℕ) (u : List ℕ) → m ≤ length u → length (take m u) ≡ m
len_take zero u le = refl
len_take (suc m) [] le = absurd (omega arith)
len_take (suc m) (b ∷ u) le = let r = len_take m u (omega (arith, le)) in omega (arith, r)

filled_len : (u : List ℕ) → is_filled u ≡ true → 1 ≤ length u
filled_len [] e = absurd (false≢true e)
filled_len (b ∷ u) e = omega arith

pub piece_is : (v : View) → is_websocket v.kind ≡ false → is_filled v.unfed ≡ true → is_piece (piece_of v) ≡ true
piece_is v ws full =
    let n : piece_len v ≡ min 65536 (length v.unfed) = rw ws refl in
    let more = filled_len v.unfed full in
    let len : length (piece_of v) ≡ piece_len v = len_take (piece_len v) v.unfed (omega (arith, n)) in
    and_from _ _ (lt-ltb 0 (length (piece_of v)) (omega (arith, n, more, len))) (le-leb (length (piece_of v)) 65536 (omega (arith, n, len)))

-- ---- what an act makes of the run

module _ (s : Setting) (v : View) where
  pub given_feed : (t : Bool) → walked s v (when t (Feed v.number (piece_of v))) ≡ record v { unfed = without (if t then piece_of v else []) v.unfed; untaken = more_by (if t then piece_of v else []) v.untaken }
  given_feed true = rw (eq-eqb v.number v.number refl, and_false (is_websocket v.kind), and_false (not (is_some v.outcome)), or_none v.outcome) refl
  given_feed false = refl

  pub given_input : (t : Bool) → walked s v (when t (EndInput v.number)) ≡ record v { input_ended = t || v.input_ended }
  given_input true = rw (eq-eqb v.number v.number refl, and_false (is_websocket v.kind), and_false (not (is_some v.outcome)), or_none v.outcome) refl
  given_input false = refl

  pub given_kill : (t : Bool) → walked s v (when t (Kill v.number)) ≡ record v { killed = t || v.killed }
  given_kill true = rw (eq-eqb v.number v.number refl, and_false (is_websocket v.kind), and_false (not (is_some v.outcome)), or_none v.outcome) refl
  given_kill false = refl

  pub given_release : (t : Bool) → walked s v (when t (Release v.number)) ≡ record v { output_ended = t || v.output_ended }
  given_release true = rw (eq-eqb v.number v.number refl, and_false (is_websocket v.kind), and_false (not (is_some v.outcome)), or_none v.outcome) refl
  given_release false = refl

  pub given_ask : (t : Bool) → walked s v (when t (WantChild v.number)) ≡ record v { asked = t || v.asked }
  given_ask true = rw (eq-eqb v.number v.number refl, and_false (is_websocket v.kind), and_false (not (is_some v.outcome)), or_none v.outcome) refl
  given_ask false = refl

pub walked-append : (s : Setting) (v : View) (xs ys : List Act) → walked s v (xs ++ ys) ≡ walked s (walked s v xs) ys
walked-append s v [] ys = refl
walked-append s v (a ∷ xs) ys = walked-append s (noted s.conn v plain (Out a)) xs ys

-- the acts make of the run what its contract says
pub walked-acting : (s : Setting) (may : Bool) (v : View) → walked s v (acting may v) ≡ acted may v
unfolding acting acted
walked-acting s may v =
    let v1 = feed_given v in
    let v2 = input_given v1 in
    let v3 = kill_given v2 in
    let v4 = release_given v3 in
    let w1 = feeding v in
    let w2 = when (is_input_due v1) (EndInput v.number) in
    let w3 = when (is_kill_due v2) (Kill v.number) in
    let w4 = when (is_release_due v3) (Release v.number) in
    let w5 = when (is_ask_due may v4) (WantChild v.number) in
    let e1 : walked s v w1 ≡ v1 = given_feed s v (is_feed_due v) in
    let e2 : walked s v (w1 ++ w2) ≡ v2 = walked-append s v w1 w2 ∙ (ap (λ w. walked s w w2) e1 ∙ given_input s v1 (is_input_due v1)) in
    let e3 : walked s v (w1 ++ w2 ++ w3) ≡ v3 = walked-append s v (w1 ++ w2) w3 ∙ (ap (λ w. walked s w w3) e2 ∙ given_kill s v2 (is_kill_due v2)) in
    let e4 : walked s v (w1 ++ w2 ++ w3 ++ w4) ≡ v4 = walked-append s v (w1 ++ w2 ++ w3) w4 ∙ (ap (λ w. walked s w w4) e3 ∙ given_release s v3 (is_release_due v3)) in
    walked-append s v (w1 ++ w2 ++ w3 ++ w4) w5 ∙ (ap (λ w. walked s w w5) e4 ∙ given_ask s v4 (is_ask_due may v4))

-- ---- nothing is due afterwards, and what was done is wanted

not_twice : (w i : Bool) → (w && not (w && not i || i)) ≡ false
not_twice true true = refl
not_twice true false = refl
not_twice false i = refl

wanted_of : (w i : Bool) → i ≡ false → (w && not i || i) ≡ true → w ≡ true
wanted_of true i e t = refl
wanted_of false i e t = absurd (false≢true (sym e ∙ t))

not_fed_twice : (st d x i j u : Bool) (t : Bool) → (st && not d && not x && not i && u && t) ≡ false → (st && not d && not x && not (j || i) && u && t) ≡ false
not_fed_twice st d x i true u t e = go (st && not d && not x)
  where
    go : (b : Bool) → (b && false && u && t) ≡ false
    go true = refl
    go false = refl
not_fed_twice st d x i false u t e = e

and_end_false : (a b : Bool) → b ≡ false → (a && b) ≡ false
and_end_false a b e = ap (λ c. a && c) e ∙ and_false a

grown : (f : List ℕ) (n : ℕ) → 1 ≤ length f → (more_by f n == 0) ≡ false
grown [] n le = absurd (omega arith)
grown (b ∷ f) n le = ne_eqb (n + length (b ∷ f)) 0 (λ e. absurd (omega (arith, le, e)))

pub piece_filled : (v : View) → is_filled v.unfed ≡ true → 1 ≤ length (piece_of v)
piece_filled v full = elim (cases_Bool (is_websocket v.kind)) [
  | inl ws ↦
      let n : piece_len v ≡ length v.unfed = rw ws refl in
      let more = filled_len v.unfed full in
      let len : length (piece_of v) ≡ piece_len v = len_take (piece_len v) v.unfed (omega (arith, n)) in
      omega (arith, n, more, len)
  | inr ws ↦
      let n : piece_len v ≡ min 65536 (length v.unfed) = rw ws refl in
      let more = filled_len v.unfed full in
      let len : length (piece_of v) ≡ piece_len v = len_take (piece_len v) v.unfed (omega (arith, n)) in
      omega (arith, n, more, len)
]

pub due_filled : (v : View) → is_feed_due v ≡ true → is_filled v.unfed ≡ true
due_filled v e = (and_parts (v.started && not (is_some v.outcome) && not v.exited && not v.input_ended) (is_filled v.unfed) (and_parts _ (v.untaken == 0) e).0).1

fed_rest : (v : View) (j : Bool) → (v.started && not (is_some v.outcome) && not v.exited && not (j || v.input_ended) && is_filled (without (fed v) v.unfed) && more_by (fed v) v.untaken == 0) ≡ false
fed_rest v j = go (is_feed_due v) refl
  where
    go : (t : Bool) → is_feed_due v ≡ t → (v.started && not (is_some v.outcome) && not v.exited && not (j || v.input_ended) && is_filled (without (if t then piece_of v else []) v.unfed) && more_by (if t then piece_of v else []) v.untaken == 0) ≡ false
    go true e = and_end_false _ _ (grown (piece_of v) v.untaken (piece_filled v (due_filled v e)))
    go false e = not_fed_twice v.started (is_some v.outcome) v.exited v.input_ended j (is_filled v.unfed) (v.untaken == 0) e

no_more : (a b c d e : Bool) → a ≡ false → b ≡ false → c ≡ false → d ≡ false → e ≡ false → not (a || b || c || d || e) ≡ true
no_more a b c d e p q r t u = rw (p, q, r, t, u) refl

-- after the acts nothing is due
pub acted-rest : (may : Bool) (v : View) → is_at_rest may (acted may v) ≡ true
unfolding acted
acted-rest may v =
    let v1 = feed_given v in
    let v2 = input_given v1 in
    let v3 = kill_given v2 in
    let v4 = release_given v3 in
    no_more _ _ _ _ _ (fed_rest v (is_input_due v1)) (not_twice (wants_input_end v1) v.input_ended) (not_twice (wants_kill v2) v.killed) (not_twice (wants_release v3) v.output_ended) (not_twice (wants_output may v4) v.asked)

-- what was done is wanted
pub acted-deserved : (may : Bool) (v : View) → Deserved may v (acted may v)
unfolding acted
acted-deserved may v =
    let v1 = feed_given v in
    let v2 = input_given v1 in
    let v3 = kill_given v2 in
    let v4 = release_given v3 in
    record {
      input = λ o n. wanted_of (wants_input_end v1) v.input_ended o n;
      kill = λ o n. wanted_of (wants_kill v2) v.killed o n;
      release = λ o n. wanted_of (wants_release v3) v.output_ended o n;
      ask = λ o n. wanted_of (wants_output may v4) v.asked o n;
    }
