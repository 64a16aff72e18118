-- What holds of a child at the end of a step at which nothing is due for it.
use Rattle.std.proofs.Common.{◌≡◌, ℕ, ◌+◌, ◌-◌, List, [], ◌∷◌, ◌++◌, Bool, true, false, ◌||◌, ◌&&◌, refl, sym, ◌∙◌, ap, arith, Option, Some, None, length, length-append, append-nil, append_assoc, add-zero, subst, inl, inr, map}
use Rattle.std.specs.Prelude.{if◌then◌else◌, ◌==◌, not, nat_le, nat_lt, nat_eq, is_some, count_by, bytes_eq}
use Rattle.std.specs.List.{list_any, starts_with, fold}
use Rattle.std.proofs.lemmas.Bool.{cases_Bool, and_parts, and_from, or_parts, not-true, not_from_false, eq-eqb, le-leb, lt-ltb, ltb-true}
use Rattle.std.proofs.lemmas.Bool.Decides.{nat_tests}
use Rattle.std.proofs.lemmas.Grind.{common_steps}
use Rattle.std.proofs.lemmas.Slice.Eq.{bytes_eq-Decides}
use Rattle.host_trace.specs.declared.items.Act.{Act}
use Rattle.host_trace.specs.declared.items.Item.{Item}
use Rattle.host_trace.specs.declared.items.Item.TheVariants.{Out}
use Rattle.host_trace.specs.First.{since}
use Rattle.host_trace.specs.Kinds.{is_end_input, is_kill, is_release, is_want_child, is_child_eof, is_ws_closed}
use Rattle.host_trace.specs.Projections.{started, exited, killed, input_ended, output_ended, child_wanted, child_in, took_sum, tick_count, stopped}
use Rattle.host_trace.specs.Account.{is_account}
use Rattle.host_trace.specs.Decider.{is_websocket}
use Rattle.trace_child.specs.Words.{implies, given, once, is_filled}
use Rattle.trace_child.specs.Decided.{is_decided, is_by_other}
use Rattle.trace_child.specs.ChildDemands.{is_all_taken, is_fed_whole as is_body_fed, is_left_alone as left_alone, has_lingered as lingered, ends_waiting, must_end_input, must_kill, must_release, must_ask}
use Rattle.trace_child.specs.Bodies.{bodies}
use Rattle.trace_child.specs.Feeds.{feeds, is_fed_now, lacks_body}
use Rattle.trace_child.specs.HandlesDecided.{handles_decided}
use Rattle.trace_child.specs.Lingers.{lingers}
use Rattle.trace_child.specs.Stops.{stops_child}
use Rattle.trace_child.specs.ChildGood.{ChildGood}
use Rattle.trace_child.proofs.WordLaws.{implies_from}
use Rattle.child_core.specs.declared.ending.Outcome.{Outcome}
use Rattle.child_core.specs.View.{View, plain, noted, is_output, is_other, asked_by}
use Rattle.child_core.specs.Due.{is_fed_whole, is_left_alone, has_lingered, wants_input_end, wants_kill, wants_release, wants_output, is_feed_due, is_input_due, is_kill_due, is_release_due, is_ask_due, is_at_rest}
use Rattle.child_core.specs.Setting.{Setting, run_in}
use Rattle.child_core.specs.Knows.{KnowsRun, one_if}
use Rattle.child_core.specs.Walk.{Walk, walked, Deserved}
use Rattle.child_core.proofs.KnowsLaws.{Knows-noted}

-- ---- demands of the rules are what the run wants

le_left : (most n : ℕ) → nat_le most n ≡ (most - n == 0)
le_left most n = grind (arith, nat_tests)

unfilled_eq : (c u : List ℕ) → bytes_eq c (c ++ u) ≡ not (is_filled u)
unfilled_eq c [] = (bytes_eq-Decides c (c ++ [])).1 (sym (append-nil c))
unfilled_eq c (b ∷ u) = go (bytes_eq c (c ++ b ∷ u)) refl
  where
    go : (t : Bool) → bytes_eq c (c ++ b ∷ u) ≡ t → bytes_eq c (c ++ b ∷ u) ≡ false
    go false e = e
    go true e =
        let l = ap length ((bytes_eq-Decides c (c ++ b ∷ u)).0 e) ∙ length-append c (b ∷ u) in
        absurd (omega (arith, l))

asked_now : (a w : ℕ) (b : Bool) → w ≡ a + one_if b → nat_lt a w ≡ b
asked_now a w true e = lt-ltb a w (omega arith)
asked_now a w false e = grind (arith, nat_tests)

module _ (early : Bool) (s : Setting) (v : View) (L : List Item) (k : KnowsRun early s v L) where
  other_is : is_by_other (run_in s v) L ≡ is_other v.outcome
  other_is = rw (k.decided, k.by_output) refl

  pub wanted_is : child_wanted L v.number ≡ v.asked
  wanted_is = asked_now _ _ v.asked k.asked

  fed_is : is_some v.outcome ≡ false → is_body_fed (run_in s v) L ≡ is_fed_whole v
  fed_is u = elim (cases_Bool (is_websocket v.kind)) [
    | inl ws ↦ rw ws refl
    | inr ws ↦ rw (← k.whole u ws, k.body u, unfilled_eq (child_in L v.number) v.unfed) refl
  ]

  hung_now : v.hung_up ≡ true → is_output v.outcome ≡ false → v.linger_left ≡ s.limits.linger_ticks - tick_count (since (is_ws_closed s.conn) L)
  hung_now h o = k.linger_left ∙ rw (o, h) refl

  alone_is : left_alone (run_in s v) L ≡ is_left_alone v
  alone_is = rw (← k.hung_up, k.decided) (go v.hung_up refl v.outcome refl)
    where
      go : (h : Bool) → v.hung_up ≡ h → (o : Option Outcome) → v.outcome ≡ o →
          (h && not (is_some o) && nat_le s.limits.linger_ticks (tick_count (since (is_ws_closed s.conn) L))) ≡ (h && not (is_some o) && v.linger_left == 0)
      go false hung o out = refl
      go true hung (Some d) out = refl
      go true hung None out = le_left s.limits.linger_ticks (tick_count (since (is_ws_closed s.conn) L)) ∙ ap (λ n. n == 0) (sym (hung_now hung (ap is_output out)))

  lingered_is : lingered (run_in s v) L ≡ has_lingered v
  lingered_is = rw k.by_output (go (is_output v.outcome) refl)
    where
      go : (o : Bool) → is_output v.outcome ≡ o →
          (o && (nat_le s.limits.linger_ticks (tick_count (since (is_child_eof v.number) L)) || list_any (ends_waiting s.conn) (since (is_child_eof v.number) L))) ≡ (o && (v.linger_left == 0 || v.abandoned))
      go false out = refl
      go true out =
          let left : v.linger_left ≡ s.limits.linger_ticks - tick_count (since (is_child_eof v.number) L) = k.linger_left ∙ rw out refl in
          rw (k.abandoned out, left, le_left s.limits.linger_ticks (tick_count (since (is_child_eof v.number) L))) refl

  pub end_input_is : must_end_input (run_in s v) L ≡ wants_input_end v
  end_input_is = rw (← k.started, k.decided, ← k.hung_up, ← k.exited) (go (is_some v.outcome) refl)
    where
      go : (d : Bool) → is_some v.outcome ≡ d → (v.started && (d || v.hung_up || not v.exited && is_body_fed (run_in s v) L)) ≡ (v.started && (d || v.hung_up || not v.exited && is_fed_whole v))
      go true d = refl
      go false d = ap (λ b. v.started && (false || v.hung_up || not v.exited && b)) (fed_is d)

  pub kill_is : must_kill (run_in s v) L ≡ wants_kill v
  kill_is = rw (← k.started, ← k.exited, other_is, alone_is, lingered_is) refl

  pub release_is : must_release (run_in s v) L ≡ wants_release v
  release_is = rw (← k.started, ← k.exited, other_is, alone_is, ← k.killed) refl

  pub ask_is : (may : Bool) → must_ask (run_in s v) may L ≡ wants_output may v
  ask_is may = rw (← k.started, k.decided, ← k.killed, ← k.output_ended) refl

-- ---- nothing is due

pub record Rests (may : Bool) (v : View) : Type 0 where
  pub feed : is_feed_due v ≡ false
  pub input : is_input_due v ≡ false
  pub kill : is_kill_due v ≡ false
  pub release : is_release_due v ≡ false
  pub ask : is_ask_due may v ≡ false

pub rests_of : (may : Bool) (v : View) → is_at_rest may v ≡ true → Rests may v
rests_of may v e =
    let p = or_parts (is_feed_due v || is_input_due v || is_kill_due v || is_release_due v) (is_ask_due may v) (not-true _ e) in
    let q = or_parts (is_feed_due v || is_input_due v || is_kill_due v) (is_release_due v) p.0 in
    let r = or_parts (is_feed_due v || is_input_due v) (is_kill_due v) q.0 in
    let t = or_parts (is_feed_due v) (is_input_due v) r.0 in
    record { feed = t.0; input = t.1; kill = r.1; release = q.1; ask = p.1 }

handled_by : (st d h e f i ot al li kd o : Bool) → (st && (d || h || not e && f) && not i) ≡ false → (st && not e && (ot || al || li) && not kd) ≡ false → (st && e && (ot || al || kd) && not o) ≡ false →
    implies st (implies d i && implies ot (kd || e) && implies (ot && e) o) ≡ true
handled_by false d h e f i ot al li kd o input kill release = refl
handled_by true false h e f i false al li kd o input kill release = refl
handled_by true false h true f i true al li kd o input kill release = go kd o release
  where
    go : (kd o : Bool) → (not o) ≡ false → ((kd || true) && o) ≡ true
    go true true e = refl
    go false true e = refl
    go true false e = absurd (cc)
    go false false e = absurd (cc)
handled_by true false h false f i true al li kd o input kill release = go kd kill
  where
    go : (kd : Bool) → (not kd) ≡ false → ((kd || false) && true) ≡ true
    go true e = refl
    go false e = absurd (cc)
handled_by true true h e f true false al li kd o input kill release = refl
handled_by true true h true f true true al li kd o input kill release = go kd o release
  where
    go : (kd o : Bool) → (not o) ≡ false → ((kd || true) && o) ≡ true
    go true true e = refl
    go false true e = refl
    go true false e = absurd (cc)
    go false false e = absurd (cc)
handled_by true true h false f true true al li kd o input kill release = go kd kill
  where
    go : (kd : Bool) → (not kd) ≡ false → ((kd || false) && true) ≡ true
    go true e = refl
    go false e = absurd (cc)
handled_by true true h e f false ot al li kd o input kill release = absurd (cc)

lingers_by : (st d h e f i ot al li kd o may ask : Bool) → (st && (d || h || not e && f) && not i) ≡ false → (st && not e && (ot || al || li) && not kd) ≡ false → (st && e && (ot || al || kd) && not o) ≡ false →
    (st && not d && not kd && not o && may && not ask) ≡ false →
    implies st (implies (li && not e) kd && implies h i && implies al (kd || e && o) && implies (kd && e) o && implies (st && not d && not kd && not o && may) ask) ≡ true
lingers_by false d h e f i ot al li kd o may ask input kill release asks = refl
lingers_by true d h e f i ot al li kd o may ask input kill release asks =
    and_from _ _ (and_from _ _ (and_from _ _ (and_from _ _
    (implies_from (li && not e) kd (λ t. lingered_killed e ot al li kd kill t))
    (implies_from h i (λ t. hung_ended d h e f i input t)))
    (implies_from al (kd || e && o) (λ t. alone_over e ot al li kd o kill release t)))
    (implies_from (kd && e) o (λ t. killed_over e ot al kd o release t)))
    (implies_from (not d && not kd && not o && may) ask (λ t. asked_for (not d && not kd && not o && may) ask asks t))
  where
    lingered_killed : (e ot al li kd : Bool) → (not e && (ot || al || li) && not kd) ≡ false → (li && not e) ≡ true → kd ≡ true
    lingered_killed e ot al li kd k t = grind (arith, common_steps)

    hung_ended : (d h e f i : Bool) → ((d || h || not e && f) && not i) ≡ false → h ≡ true → i ≡ true
    hung_ended d h e f i k t = grind (arith, common_steps)

    alone_over : (e ot al li kd o : Bool) → (not e && (ot || al || li) && not kd) ≡ false → (e && (ot || al || kd) && not o) ≡ false → al ≡ true → (kd || e && o) ≡ true
    alone_over e ot al li kd o k r t = grind (arith, common_steps)

    killed_over : (e ot al kd o : Bool) → (e && (ot || al || kd) && not o) ≡ false → (kd && e) ≡ true → o ≡ true
    killed_over e ot al kd o r t = grind (arith, common_steps)

    asked_for : (w ask : Bool) → (w && not ask) ≡ false → w ≡ true → ask ≡ true
    asked_for w ask k t = grind (arith, common_steps)

stops_by : (st e ot out ab al left kd : Bool) (stopped : Bool) → (stopped ≡ true → (ot || out && ab) ≡ true) → (st && not e && (ot || al || (out && (left || ab))) && not kd) ≡ false → implies (stopped && st) (kd || e) ≡ true
stops_by st e ot out ab al left kd stopped given kill = implies_from (stopped && st) (kd || e) (λ t.
    let p = and_parts stopped st t in
    over st e ot out ab al left kd (given p.0) kill p.1)
  where
    over : (st e ot out ab al left kd : Bool) → (ot || out && ab) ≡ true → (st && not e && (ot || al || (out && (left || ab))) && not kd) ≡ false → st ≡ true → (kd || e) ≡ true
    over st e ot out ab al left kd g k t = grind (arith, common_steps)

-- ---- how often an act stands in a step

count_from : {X : Type 0} (test : X → Bool) (n : ℕ) (xs : List X) → fold (λ (n : ℕ) (y : X). n + (if test y then 1 else 0)) n xs ≡ n + count_by test xs
count_from test n [] = sym (add-zero n)
count_from {X} test n (x ∷ xs) =
    let i : ℕ = if test x then 1 else 0 in
    let a = count_from test (n + i) xs in
    let b = count_from test (0 + i) xs in
    a ∙ (add_moved n i (count_by test xs) ∙ ap (λ m. n + m) (sym b))
  where
    add_moved : (n i c : ℕ) → (n + i) + c ≡ n + ((0 + i) + c)
    add_moved n i c = omega arith

given_cons : (test : Item → Bool) (a : Act) (acts : List Act) → given test (a ∷ acts) ≡ (if test (Out a) then 1 else 0) + given test acts
given_cons test a acts = count_from (λ (act : Act). test (Out act)) (0 + (if test (Out a) then 1 else 0)) acts ∙ ap (λ n. n + given test acts) (zero_first (if test (Out a) then 1 else 0))
  where
    zero_first : (n : ℕ) → 0 + n ≡ n
    zero_first n = omega arith

one_more : (t i : Bool) (m n : ℕ) → (t ≡ true → i ≡ false) → n ≡ one_if (t || i) + m → n ≡ one_if i + ((if t then 1 else 0) + m)
one_more true true m n new e = absurd (let f : true ≡ false = new refl in cc)
one_more true false m n new e = omega arith
one_more false i m n new e = omega arith

or_end : (b : Bool) → (b || false) ≡ b
or_end true = refl
or_end false = refl

one_ask : (t old : Bool) (m n : ℕ) → (t ≡ true → old ≡ false) → n ≡ one_if (asked_by t false old) + m → n ≡ one_if old + ((if t then 1 else 0) + m)
one_ask true true m n new e = absurd (let f : true ≡ false = new refl in cc)
one_ask true false m n new e = omega arith
one_ask false old m n new e = omega arith

module _ (early : Bool) (s : Setting) where
  pub Knows-walk : (v : View) (L : List Item) (acts : List Act) → KnowsRun early s v L → Walk early s v L acts → KnowsRun early s (walked s v acts) (L ++ map Out acts)
  Knows-walk v L [] k w = subst (KnowsRun early s v) (sym (append-nil L)) k
  Knows-walk v L (a ∷ acts) k w =
      subst (KnowsRun early s (walked s (noted s.conn v plain (Out a)) acts)) (append_assoc L (Out a ∷ []) (map Out acts))
      (Knows-walk (noted s.conn v plain (Out a)) (L ++ Out a ∷ []) acts (Knows-noted early s v L plain (Out a) k w.0.admits) w.1)

  same_number : (v : View) (acts : List Act) → (walked s v acts).number ≡ v.number
  same_number v [] = refl
  same_number v (a ∷ acts) = same_number (noted s.conn v plain (Out a)) acts

  inputs : (v : View) (L : List Item) (acts : List Act) → Walk early s v L acts → one_if (walked s v acts).input_ended ≡ one_if v.input_ended + given (is_end_input v.number) acts
  inputs v L [] w = sym (add-zero _)
  inputs v L (a ∷ acts) w =
      rw (given_cons (is_end_input v.number) a acts)
      (one_more (is_end_input v.number (Out a)) v.input_ended _ _ w.0.input
      (subst (λ t. one_if (walked s (noted s.conn v plain (Out a)) acts).input_ended ≡ one_if (t || v.input_ended) + given (is_end_input v.number) acts) (or_end (is_end_input v.number (Out a)))
      (inputs (noted s.conn v plain (Out a)) (L ++ Out a ∷ []) acts w.1)))

  kills : (v : View) (L : List Item) (acts : List Act) → Walk early s v L acts → one_if (walked s v acts).killed ≡ one_if v.killed + given (is_kill v.number) acts
  kills v L [] w = sym (add-zero _)
  kills v L (a ∷ acts) w =
      rw (given_cons (is_kill v.number) a acts)
      (one_more (is_kill v.number (Out a)) v.killed _ _ w.0.kill (kills (noted s.conn v plain (Out a)) (L ++ Out a ∷ []) acts w.1))

  releases : (v : View) (L : List Item) (acts : List Act) → Walk early s v L acts → one_if (walked s v acts).output_ended ≡ one_if v.output_ended + given (is_release v.number) acts
  releases v L [] w = sym (add-zero _)
  releases v L (a ∷ acts) w =
      rw (given_cons (is_release v.number) a acts)
      (one_more (is_release v.number (Out a)) v.output_ended _ _ w.0.release (releases (noted s.conn v plain (Out a)) (L ++ Out a ∷ []) acts w.1))

  asks : (v : View) (L : List Item) (acts : List Act) → Walk early s v L acts → one_if (walked s v acts).asked ≡ one_if v.asked + given (is_want_child v.number) acts
  asks v L [] w = sym (add-zero _)
  asks v L (a ∷ acts) w =
      rw (given_cons (is_want_child v.number) a acts)
      (one_ask (is_want_child v.number (Out a)) v.asked _ _ w.0.admits.asks (asks (noted s.conn v plain (Out a)) (L ++ Out a ∷ []) acts w.1))

once_is : (g : ℕ) (i new wants : Bool) → one_if new ≡ one_if i + g → (wants && not new) ≡ false → (i ≡ false → new ≡ true → wants ≡ true) → (g == once (wants && not i)) ≡ true
once_is g true true wants e rest deserved = rw (gone wants) (eq-eqb g 0 (omega arith))
  where
    gone : (w : Bool) → (w && false) ≡ false
    gone true = refl
    gone false = refl
once_is g true false wants e rest deserved = absurd (omega arith)
once_is g false true wants e rest deserved = rw (deserved refl refl) (eq-eqb g 1 (omega arith))
once_is g false false true e rest deserved = absurd (cc)
once_is g false false false e rest deserved = eq-eqb g 0 (omega arith)

due_once : (g : ℕ) (i new wants must ended : Bool) → must ≡ wants → ended ≡ i → one_if new ≡ one_if i + g → (wants && not new) ≡ false → (i ≡ false → new ≡ true → wants ≡ true) → (g == once (must && not ended)) ≡ true
due_once g i new wants must ended m e count rest deserved = rw (m, e) (once_is g i new wants count rest deserved)

-- ---- all rules at the end of a step

starts_front : (front rest : List ℕ) → starts_with nat_eq (front ++ rest) front ≡ true
starts_front [] rest = refl
starts_front (b ∷ front) rest = rw (eq-eqb b b refl) (starts_front front rest)

one_at_most : (b : Bool) (n : ℕ) → n ≡ one_if b → nat_le n 1 ≡ true
one_at_most true n e = le-leb n 1 (omega arith)
one_at_most false n e = le-leb n 1 (omega arith)

module _ (s : Setting) (v : View) (L : List Item) (k : KnowsRun false s v L) (may : Bool) (r : Rests may v) where
  account_is : is_account L v.number ≡ true
  account_is = and_from _ _ (and_from _ _ (eq-eqb _ 1 k.starts) (one_at_most (v.started || v.refused) _ k.answers)) (one_at_most v.exited _ k.exits)

  bodies_are : bodies (run_in s v) L ≡ true
  bodies_are = implies_from (not (is_websocket v.kind)) _ (λ t.
      let ws = not-true _ t in
      and_from _ _ (and_from _ _
      (ap (λ l. starts_with nat_eq l (child_in L v.number)) (sym k.front.is) ∙ starts_front (child_in L v.number) k.front.rest)
      (k.in_turn ws))
      (k.owes refl ws))

  handles : handles_decided (run_in s v) L ≡ true
  handles = rw (other_is false s v L k, k.decided, ← k.started, ← k.input_ended, ← k.killed, ← k.exited, ← k.output_ended)
      (handled_by v.started (is_some v.outcome) v.hung_up v.exited (is_fed_whole v) v.input_ended (is_other v.outcome) (is_left_alone v) (has_lingered v) v.killed v.output_ended r.input r.kill r.release)

  lingers_are : lingers (run_in s v) may L ≡ true
  lingers_are = rw (lingered_is false s v L k, alone_is false s v L k, wanted_is false s v L k, k.decided, ← k.started, ← k.exited, ← k.killed, ← k.hung_up, ← k.input_ended, ← k.output_ended)
      (lingers_by v.started (is_some v.outcome) v.hung_up v.exited (is_fed_whole v) v.input_ended (is_other v.outcome) (is_left_alone v) (has_lingered v) v.killed v.output_ended may v.asked r.input r.kill r.release r.ask)

  stops_are : stops_child (run_in s v) L ≡ true
  stops_are = rw (← k.started, ← k.killed, ← k.exited)
      (stops_by v.started v.exited (is_other v.outcome) (is_output v.outcome) v.abandoned (is_left_alone v) (v.linger_left == 0) v.killed (stopped L) k.stops r.kill)

  feeds_are : feeds (run_in s v) L ≡ true
  feeds_are = implies_from (is_fed_now (run_in s v) L) _ (λ t.
      let p = and_parts (not (is_websocket v.kind) && started L v.number && not (is_decided (run_in s v) L) && not (exited L v.number)) (not (input_ended L v.number)) t in
      let q = and_parts (not (is_websocket v.kind) && started L v.number && not (is_decided (run_in s v) L)) (not (exited L v.number)) p.0 in
      let o = and_parts (not (is_websocket v.kind) && started L v.number) (not (is_decided (run_in s v) L)) q.0 in
      let m = and_parts (not (is_websocket v.kind)) (started L v.number) o.0 in
      let on : v.started ≡ true = k.started ∙ m.1 in
      let undecided : is_some v.outcome ≡ false = sym k.decided ∙ not-true _ o.1 in
      let alive : v.exited ≡ false = k.exited ∙ not-true _ q.1 in
      let unended : v.input_ended ≡ false = k.input_ended ∙ not-true _ p.1 in
      and_from _ _
      (implies_from (lacks_body (run_in s v) L) _ (λ lacks. waits on undecided alive unended lacks))
      (ap not (fed_is false s v L k undecided ∙ not_whole v.started (is_some v.outcome) v.hung_up v.exited (is_fed_whole v) v.input_ended r.input on alive unended)))
    where
      not_whole : (st d h e f i : Bool) → (st && (d || h || not e && f) && not i) ≡ false → st ≡ true → e ≡ false → i ≡ false → f ≡ false
      not_whole st d h e f i x on alive unended = grind (arith, common_steps)

      not_taken : (st d e i u t : Bool) → (st && not d && not e && not i && u && t) ≡ false → st ≡ true → d ≡ false → e ≡ false → i ≡ false → u ≡ true → t ≡ false
      not_taken st d e i u t x on und alive unended full = grind (arith, common_steps)

      fills : (c u : List ℕ) → nat_lt (length c) (length (c ++ u)) ≡ true → is_filled u ≡ true
      fills c [] e = absurd (let l = ltb-true (length c) (length (c ++ [])) e in let m = length-append c [] in omega (arith, l, m))
      fills c (b ∷ u) e = refl

      untaken : (t u n : ℕ) → t + u ≡ n → (u == 0) ≡ false → (t == n) ≡ false
      untaken t u n e z = grind (arith, nat_tests)

      waits : v.started ≡ true → is_some v.outcome ≡ false → v.exited ≡ false → v.input_ended ≡ false → lacks_body (run_in s v) L ≡ true → not (is_all_taken L v.number) ≡ true
      waits on undecided alive unended lacks =
          let full : is_filled v.unfed ≡ true = fills (child_in L v.number) v.unfed (ap (λ (l : List ℕ). nat_lt (length (child_in L v.number)) (length l)) (sym (k.body undecided)) ∙ lacks) in
          not_from_false _ (untaken (took_sum L v.number) v.untaken (length (child_in L v.number)) k.took (not_taken v.started (is_some v.outcome) v.exited v.input_ended (is_filled v.unfed) (v.untaken == 0) r.feed on undecided alive unended full))

-- At the end of a step whose acts may each come when they come, at which nothing is due and what the step did to the
-- child is wanted, all rules on the child hold. `early`: the connection found no memory, and its Shut stands in the step.
pub good_at_end : (early may : Bool) (s : Setting) (w : View) (H : List Item) (acts : List Act) → KnowsRun early s w H → Walk early s w H acts →
    KnowsRun false s (walked s w acts) (H ++ map Out acts) → is_at_rest may (walked s w acts) ≡ true → Deserved may w (walked s w acts) →
    ChildGood (run_in s (walked s w acts)) may H acts (H ++ map Out acts)
good_at_end early may s w H acts k walk new rest deserved =
    let same = same_number early s w acts in
    let v = walked s w acts in
    let L = H ++ map Out acts in
    let r = rests_of may v rest in
    record {
      account = account_is s v L new may r;
      bodies = bodies_are s v L new may r;
      acts_due = and_from _ _ (and_from _ _ (and_from _ _
          (due_once (given (is_end_input v.number) acts) w.input_ended v.input_ended (wants_input_end v) (must_end_input (run_in s v) L) (input_ended H v.number) (end_input_is false s v L new) (ap (input_ended H) same ∙ sym k.input_ended)
          (inputs early s w H acts walk ∙ ap (λ n. one_if w.input_ended + given (is_end_input n) acts) (sym same)) r.input deserved.input)
          (due_once (given (is_kill v.number) acts) w.killed v.killed (wants_kill v) (must_kill (run_in s v) L) (killed H v.number) (kill_is false s v L new) (ap (killed H) same ∙ sym k.killed)
          (kills early s w H acts walk ∙ ap (λ n. one_if w.killed + given (is_kill n) acts) (sym same)) r.kill deserved.kill))
          (due_once (given (is_release v.number) acts) w.output_ended v.output_ended (wants_release v) (must_release (run_in s v) L) (output_ended H v.number) (release_is false s v L new) (ap (output_ended H) same ∙ sym k.output_ended)
          (releases early s w H acts walk ∙ ap (λ n. one_if w.output_ended + given (is_release n) acts) (sym same)) r.release deserved.release))
          (due_once (given (is_want_child v.number) acts) w.asked v.asked (wants_output may v) (must_ask (run_in s v) may L) (child_wanted H v.number) (ask_is false s v L new may) (ap (child_wanted H) same ∙ wanted_is early s w H k)
          (asks early s w H acts walk ∙ ap (λ n. one_if w.asked + given (is_want_child n) acts) (sym same)) r.ask deserved.ask);
      feeds = feeds_are s v L new may r;
      handles_decided = handles s v L new may r;
      lingers = lingers_are s v L new may r;
      stops = stops_are s v L new may r;
    }
