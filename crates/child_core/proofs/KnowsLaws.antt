-- A run that notes an item knows the list with that item.
use Rattle.std.proofs.Common.{◌≡◌, ℕ, ◌-◌, ◌≤◌, List, [], ◌∷◌, ◌++◌, Bool, true, false, ◌||◌, ◌&&◌, refl, sym, ◌∙◌, ap, arith, Option, Some, None, length, length-append, add-zero, subst, inl, inr}
use Rattle.std.specs.Prelude.{if◌then◌else◌, ◌==◌, not, nat_lt, is_some}
use Rattle.std.specs.List.{list_any}
use Rattle.std.proofs.lemmas.Bool.{cases_Bool, and_parts, or_parts, or_cases, or_right, false≢true, ltb-false}
use Rattle.host_trace.specs.declared.items.Event.TheVariants.{ChildBytes, ChildEof, Stop, WsClosed}
use Rattle.host_trace.specs.declared.items.Item.{Item}
use Rattle.host_trace.specs.declared.items.Item.TheVariants.{In}
use Rattle.host_trace.specs.First.{since, or_else}
use Rattle.host_trace.specs.Kinds.{is_start, is_started, is_start_answer, is_exited, is_input_end, is_output_end, is_kill, is_want_child, is_child_answer, is_child_eof, is_child_broken, is_release, is_start_failed, is_start_full, is_tick, is_stop, is_ws_closed, is_feed, output_heard}
use Rattle.host_trace.specs.Projections.{child_out, child_in, tick_count, stopped, output_ended}
use Rattle.host_trace.specs.Account.{is_refusal}
use Rattle.host_trace.specs.Decider.{is_websocket}
use Rattle.host_trace.proofs.FirstLaws.{count_by-push}
use Rattle.trace_child.specs.Decided.{decides_run}
use Rattle.child_core.proofs.BodyLaws.{body_push, front_undecided, front_decided, whole_push, took_push, in_turn_push, owes_push}
use Rattle.host_trace.proofs.ProjectionLaws.{child_out-push, tick_count-push, stopped-push}
use Rattle.trace_child.specs.ChildDemands.{ends_waiting}
use Rattle.child_core.specs.declared.ending.Outcome.{Outcome}
use Rattle.child_core.specs.declared.ending.Outcome.TheVariants.{Output, Failed, Gone, Stopped, Dropped}
use Rattle.child_core.specs.View.{View, Note, noted, is_output, is_other, verdict, outcome_after, ticked, less_by, by_bytes, chosen}
use Rattle.child_core.specs.Setting.{Setting, run_in}
use Rattle.child_core.specs.Knows.{KnowsRun, Admits, IsFront, one_if, is_given_up}
use Rattle.child_core.proofs.WordLaws.{any-push, any-stays, any-new, since_begun, since_first, once-push, asked-push, apart, less_by-is, ticked-is}
use Rattle.child_core.proofs.DecideLaws.{Counts, Stands, Stands-push, row_is, verdict_reads}

none_is : {X : Type 0} (o : Option X) → is_some o ≡ false → o ≡ None
none_is None e = refl
none_is (Some x) e = absurd (cc)

or_none : {X : Type 0} (o w : Option X) → is_some (or_else o w) ≡ false → (is_some o ≡ false) × (is_some w ≡ false)
or_none None w e = (refl, e)
or_none (Some x) w e = absurd (cc)

-- ---- counts

counts_of : (early : Bool) (s : Setting) (v : View) (L : List Item) (n : Note) (x : Item) → KnowsRun early s v L → Admits early s v L n x → is_some v.outcome ≡ false → Counts s v n L x
counts_of early s v L n x k a u = record {
  left = λ _. k.output_left;
  within = k.within u;
  time = λ _. k.run_left;
  whole = k.whole u;
  talk = k.talk;
  refused = a.refused;
}

tick_left : (most left : ℕ) (S : List Item) (x : Item) → left ≡ most - tick_count S → ticked (is_tick x) left ≡ most - tick_count (S ++ x ∷ [])
tick_left most left S x e = ticked-is (is_tick x) left ∙ rw (tick_count-push S x, e) (omega arith)

bytes_left : (most left k : ℕ) (S : List Item) (x : Item) → left ≡ most - length (child_out S k) → less_by (length (output_heard k x)) left ≡ most - length (child_out (S ++ x ∷ []) k)
bytes_left most left k S x e =
    less_by-is (length (output_heard k x)) left
    ∙ rw (child_out-push S x k, length-append (child_out S k) (output_heard k x), e) (omega arith)

-- what decides nothing is output within its limit
chosen_none : (b : Bool) (o : Outcome) → is_some (chosen b o) ≡ false → b ≡ false
chosen_none true o e = absurd (cc)
chosen_none false o e = refl

short_if : (b : Bool) (left : ℕ) (bytes : List ℕ) → (b && nat_lt left (length bytes)) ≡ false → length (if b then bytes else []) ≤ left
short_if true left bytes e = ltb-false left (length bytes) e
short_if false left bytes e = omega arith

short : (c : ℕ) (v : View) (n : Note) (x : Item) → is_websocket v.kind ≡ false → is_some (verdict c v n x) ≡ false → length (output_heard v.number x) ≤ v.output_left
short c v n (In (ChildBytes d bytes)) w e =
    let f : is_some (by_bytes false n.refused (v.number == d && nat_lt v.output_left (length bytes))) ≡ false = subst (λ b. is_some (by_bytes b n.refused (v.number == d && nat_lt v.output_left (length bytes))) ≡ false) w e in
    short_if (v.number == d) v.output_left bytes (chosen_none _ _ f)
short c v n x w e = omega arith

within_push : (most left k : ℕ) (S : List Item) (x : Item) → left ≡ most - length (child_out S k) → length (child_out S k) ≤ most → length (output_heard k x) ≤ left → length (child_out (S ++ x ∷ []) k) ≤ most
within_push most left k S x e le more = rw (child_out-push S x k, length-append (child_out S k) (output_heard k x)) (omega arith)

-- ---- the linger

and_true : (b : Bool) → (b && true) ≡ b
and_true true = refl
and_true false = refl

closed_none : (x : Item) (c : ℕ) → is_ws_closed c x ≡ true → is_tick x ≡ false
closed_none (In (WsClosed d)) c e = refl
closed_none x c e = absurd (cc)

eof_none : (x : Item) (k : ℕ) → is_child_eof k x ≡ true → is_tick x ≡ false
eof_none (In (ChildEof d)) k e = refl
eof_none x k e = absurd (cc)

module _ (s : Setting) (L : List Item) (x : Item) where
  abbrev closed_since : Bool → List Item → List Item
  closed_since hung items = if hung then since (is_ws_closed s.conn) items else []

  fresh_left : (ws : Bool) (left : ℕ) → false ≡ (ws && list_any (is_ws_closed s.conn) L) → left ≡ s.limits.linger_ticks → (ws && is_ws_closed s.conn x) ≡ true →
      left ≡ s.limits.linger_ticks - tick_count (since (is_ws_closed s.conn) (L ++ x ∷ []))
  fresh_left true left h e t = rw (since_first (is_ws_closed s.conn) L x (sym h)) (omega (arith, e))
  fresh_left false left h e t = absurd (cc)

  hung_left : (ws hung : Bool) (left : ℕ) → hung ≡ (ws && list_any (is_ws_closed s.conn) L) → left ≡ s.limits.linger_ticks - tick_count (closed_since hung L) →
      ticked (is_tick x && hung) left ≡ s.limits.linger_ticks - tick_count (closed_since (ws && is_ws_closed s.conn x || hung) (L ++ x ∷ []))
  hung_left ws true left h e =
      rw (and_true (is_tick x), or_right (ws && is_ws_closed s.conn x) true refl, since_begun (is_ws_closed s.conn) L x (and_parts ws (list_any (is_ws_closed s.conn) L) (sym h)).1)
      (tick_left s.limits.linger_ticks left (since (is_ws_closed s.conn) L) x e)
  hung_left ws false left h e = elim (cases_Bool (ws && is_ws_closed s.conn x)) [
    | inl now ↦
        let l : left ≡ s.limits.linger_ticks = omega (arith, e) in
        rw (and_false_is (is_tick x), now) (fresh_left ws left h l now)
    | inr not ↦ rw (and_false_is (is_tick x), not) e
  ]
    where
      and_false_is : (b : Bool) → (b && false) ≡ false
      and_false_is true = refl
      and_false_is false = refl

  -- by what it was and what the item decides
  module _ (k : ℕ) (ws hung : Bool) (ticks left : ℕ) (same : ticks ≡ s.limits.linger_ticks) (h : hung ≡ (ws && list_any (is_ws_closed s.conn) L)) where
    abbrev linger_since : Option Outcome → Bool → List Item → List Item
    linger_since o hung items = if is_output o then since (is_child_eof k) items else closed_since hung items

    abbrev left_after : Option Outcome → Option Outcome → ℕ
    left_after o w = if not (is_some o) && is_output w then ticks else ticked (is_tick x && (is_output o || hung)) left

    linger_push : (o w : Option Outcome) → left ≡ s.limits.linger_ticks - tick_count (linger_since o hung L) → (is_output o ≡ true → list_any (is_child_eof k) L ≡ true) →
        (is_some o ≡ false → is_output w ≡ true → list_any (is_child_eof k) L ≡ false) →
        left_after o w ≡ s.limits.linger_ticks - tick_count (linger_since (or_else o w) (ws && is_ws_closed s.conn x || hung) (L ++ x ∷ []))
    linger_push (Some Output) w e eof new = rw (and_true (is_tick x), since_begun (is_child_eof k) L x (eof refl)) (tick_left s.limits.linger_ticks left (since (is_child_eof k) L) x e)
    linger_push (Some (Failed cause)) w e eof new = hung_left ws hung left h e
    linger_push (Some Gone) w e eof new = hung_left ws hung left h e
    linger_push (Some Stopped) w e eof new = hung_left ws hung left h e
    linger_push (Some Dropped) w e eof new = hung_left ws hung left h e
    linger_push None (Some Output) e eof new = rw (since_first (is_child_eof k) L x (new refl refl)) (omega (arith, same))
    linger_push None (Some (Failed cause)) e eof new = hung_left ws hung left h e
    linger_push None (Some Gone) e eof new = hung_left ws hung left h e
    linger_push None (Some Stopped) e eof new = hung_left ws hung left h e
    linger_push None (Some Dropped) e eof new = hung_left ws hung left h e
    linger_push None None e eof new = hung_left ws hung left h e

    -- whether somebody waits for it
    waits_push : (o w : Option Outcome) (was : Bool) → (is_output o ≡ true → list_any (is_child_eof k) L ≡ true) → (is_some o ≡ false → is_output w ≡ true → list_any (is_child_eof k) L ≡ false) →
        (is_output o ≡ true → was ≡ list_any (ends_waiting s.conn) (since (is_child_eof k) L)) → is_output (or_else o w) ≡ true →
        (not (not (is_some o) && is_output w) && (ends_waiting s.conn x || was)) ≡ list_any (ends_waiting s.conn) (since (is_child_eof k) (L ++ x ∷ []))
    waits_push (Some Output) w was eof new e out = rw (since_begun (is_child_eof k) L x (eof refl)) (any-push (ends_waiting s.conn) (since (is_child_eof k) L) x was (e refl))
    waits_push (Some (Failed cause)) w was eof new e out = absurd (cc)
    waits_push (Some Gone) w was eof new e out = absurd (cc)
    waits_push (Some Stopped) w was eof new e out = absurd (cc)
    waits_push (Some Dropped) w was eof new e out = absurd (cc)
    waits_push None (Some Output) was eof new e out = rw (since_first (is_child_eof k) L x (new refl refl)) refl
    waits_push None (Some (Failed cause)) was eof new e out = absurd (cc)
    waits_push None (Some Gone) was eof new e out = absurd (cc)
    waits_push None (Some Stopped) was eof new e out = absurd (cc)
    waits_push None (Some Dropped) was eof new e out = absurd (cc)
    waits_push None None was eof new e out = absurd (cc)

-- the end of the output stands, where it decided
eof_push : (k : ℕ) (L : List Item) (x : Item) (o w : Option Outcome) → (is_output o ≡ true → list_any (is_child_eof k) L ≡ true) → (is_output w ≡ true → is_child_eof k x ≡ true) →
    is_output (or_else o w) ≡ true → list_any (is_child_eof k) (L ++ x ∷ []) ≡ true
eof_push k L x (Some o) w old new out = any-stays (is_child_eof k) L x (old out)
eof_push k L x None w old new out = any-new (is_child_eof k) L x (new out)

-- ---- Stop

given_up_stays : (o w : Option Outcome) (ends was : Bool) → (is_other o || is_output o && was) ≡ true →
    (is_other (or_else o w) || is_output (or_else o w) && (not (not (is_some o) && is_output w) && (ends || was))) ≡ true
given_up_stays (Some Output) w ends was e = or_right ends was e
given_up_stays None w ends was e = absurd (cc)
given_up_stays (Some _) w ends was e = refl

stopped_now : (o : Option Outcome) (was : Bool) → (is_other (or_else o (Some Stopped)) || is_output (or_else o (Some Stopped)) && (not (not (is_some o) && false) && (true || was))) ≡ true
stopped_now (Some Output) was = refl
stopped_now None was = refl
stopped_now (Some _) was = refl

by_stop : (c : ℕ) (v : View) (n : Note) (x : Item) → is_stop x ≡ true → is_given_up (noted c v n x) ≡ true
by_stop c v n (In Stop) e = stopped_now v.outcome v.abandoned
by_stop c v n x e = absurd (cc)

stops_push : (c : ℕ) (v : View) (n : Note) (L : List Item) (x : Item) → (stopped L ≡ true → is_given_up v ≡ true) → stopped (L ++ x ∷ []) ≡ true → is_given_up (noted c v n x) ≡ true
stops_push c v n L x old e = elim (or_cases (stopped L) (is_stop x) (sym (stopped-push L x) ∙ e)) [
  | inl was ↦ given_up_stays v.outcome (verdict c v n x) (ends_waiting c x) v.abandoned (old was)
  | inr now ↦ by_stop c v n x now
]

-- ---- the rest of what it knows

hung_push : (ws hung : Bool) (c : ℕ) (L : List Item) (x : Item) → hung ≡ (ws && list_any (is_ws_closed c) L) → (ws && is_ws_closed c x || hung) ≡ (ws && list_any (is_ws_closed c) (L ++ x ∷ []))
hung_push true hung c L x e = any-push (is_ws_closed c) L x hung e
hung_push false hung c L x e = e

eof_before : (k : ℕ) (L : List Item) (x : Item) → output_ended L k ≡ false → list_any (is_child_eof k) L ≡ false
eof_before k [] x e = refl
eof_before k (y ∷ L) x e =
    let p = or_parts (is_output_end k y) (list_any (is_output_end k) L) e in
    let q = or_parts (is_child_eof k y || is_child_broken k y) (is_release k y) p.0 in
    rw ((or_parts (is_child_eof k y) (is_child_broken k y) q.0).0) (eof_before k L x p.1)

answered_by : (a b c d : Bool) → (a || b || c || d) ≡ ((a || b) || (c || d))
answered_by true b c d = refl
answered_by false true c d = refl
answered_by false false c d = refl

answers_are : (k : ℕ) (x : Item) (started refused : Bool) → (is_start_answer k x || (started || refused)) ≡ ((is_started k x || started) || (is_refusal k x || refused))
answers_are k x started refused = go (is_started k x) (is_start_failed k x) (is_start_full k x) started refused
  where
    go : (a b c s r : Bool) → ((a || b || c) || (s || r)) ≡ ((a || s) || ((b || c) || r))
    go true b c s r = refl
    go false true c true r = refl
    go false true c false r = refl
    go false false true true r = refl
    go false false true false r = refl
    go false false false s r = refl

module _ (early : Bool) (s : Setting) (v : View) (L : List Item) (n : Note) (x : Item) (k : KnowsRun early s v L) (a : Admits early s v L n x) where
  rules : is_some v.outcome ≡ false → decides_run (run_in s v) L x ≡ is_some (verdict s.conn v n x)
  rules u = row_is s v n L x (counts_of early s v L n x k a u) k.begun

  outcome_is : Stands (run_in s v) (L ++ x ∷ []) (outcome_after s.conn v n x)
  outcome_is = Stands-push (run_in s v) L x v.outcome (verdict s.conn v n x) (record { decided = k.decided; by_output = k.by_output; outcome = k.outcome }) rules (λ _ d e. verdict_reads s v n x d e)

  -- an item that decides by the end of the output is that end, and none was before
  ends_output : is_output (verdict s.conn v n x) ≡ true → is_child_eof v.number x ≡ true
  ends_output e = go (verdict s.conn v n x) refl e
    where
      go : (w : Option Outcome) → verdict s.conn v n x ≡ w → is_output w ≡ true → is_child_eof v.number x ≡ true
      go (Some d) is out = let r = verdict_reads s v n x d is in sym r.output ∙ out
      go None is out = absurd (cc)

  no_eof : is_some v.outcome ≡ false → is_output (verdict s.conn v n x) ≡ true → list_any (is_child_eof v.number) L ≡ false
  no_eof u e = eof_before v.number L x (sym k.output_ended ∙ a.eof (ends_output e))

  within_is : is_some (outcome_after s.conn v n x) ≡ false → is_websocket v.kind ≡ false → length (child_out (since (is_start v.number) (L ++ x ∷ [])) v.number) ≤ s.limits.output
  within_is u w =
      let p = or_none v.outcome (verdict s.conn v n x) u in
      rw (since_begun (is_start v.number) L x k.begun)
      (within_push s.limits.output v.output_left v.number (since (is_start v.number) L) x k.output_left (k.within p.0 w) (short s.conn v n x w p.1))

  front_is : IsFront (child_in (L ++ x ∷ []) v.number) (s.offered (L ++ x ∷ [])).body
  front_is = elim (cases_Bool (is_some v.outcome)) [
    | inl done ↦ front_decided s v.number L x n a.body (elim (cases_Bool (is_feed v.number x)) [
      | inl t ↦ absurd (false≢true (sym (or_parts (is_some v.outcome) v.input_ended (a.feeds t)).0 ∙ done))
      | inr f ↦ f
    ]) k.front
    | inr u ↦ front_undecided s v.number L x n v.unfed a.body a.front (k.body u)
  ]

  -- a run that notes an item knows it
  pub Knows-noted : KnowsRun early s (noted s.conn v n x) (L ++ x ∷ [])
  Knows-noted = record {
    book = k.book;
    lingers = k.lingers;
    starts = count_by-push (is_start v.number) L x ∙ rw a.start (add-zero _ ∙ k.starts);
    begun = any-stays (is_start v.number) L x k.begun;
    answers = once-push (is_start_answer v.number) L x (v.started || v.refused) a.begins k.answers ∙ ap one_if (answers_are v.number x v.started v.refused);
    exits = once-push (is_exited v.number) L x v.exited a.exits k.exits;
    started = any-push (is_started v.number) L x v.started k.started;
    refused = any-push (is_refusal v.number) L x v.refused k.refused;
    exited = any-push (is_exited v.number) L x v.exited k.exited;
    input_ended = any-push (is_input_end v.number) L x v.input_ended k.input_ended;
    output_ended = any-push (is_output_end v.number) L x v.output_ended k.output_ended;
    killed = any-push (is_kill v.number) L x v.killed k.killed;
    asked = asked-push (is_want_child v.number) (is_child_answer v.number) L x v.asked a.asks a.answers (apart v.number x) k.asked;
    decided = outcome_is.decided;
    by_output = outcome_is.by_output;
    outcome = outcome_is.outcome;
    eof = eof_push v.number L x v.outcome (verdict s.conn v n x) k.eof ends_output;
    hung_up = hung_push (is_websocket v.kind) v.hung_up s.conn L x k.hung_up;
    linger_left = linger_push s L x v.number (is_websocket v.kind) v.hung_up v.linger_ticks v.linger_left k.lingers k.hung_up v.outcome (verdict s.conn v n x) k.linger_left k.eof no_eof;
    abandoned = waits_push s L x v.number (is_websocket v.kind) v.hung_up v.linger_ticks v.linger_left k.lingers k.hung_up v.outcome (verdict s.conn v n x) v.abandoned k.eof no_eof k.abandoned;
    run_left = rw (since_begun (is_start v.number) L x k.begun) (tick_left s.limits.run_ticks v.run_left (since (is_start v.number) L) x k.run_left);
    output_left = rw (since_begun (is_start v.number) L x k.begun) (bytes_left s.limits.output v.output_left v.number (since (is_start v.number) L) x k.output_left);
    within = within_is;
    body = λ u.
        let p = or_none v.outcome (verdict s.conn v n x) u in
        body_push s v.number L x n v.unfed a.body a.front (is_some (verdict s.conn v n x)) (is_some v.outcome) p.1 p.0 (k.body p.0);
    front = front_is;
    whole = λ u w.
        let p = or_none v.outcome (verdict s.conn v n x) u in
        whole_push (is_some (verdict s.conn v n x)) (is_some v.outcome) n.last v.whole (s.offered L).whole (s.offered (L ++ x ∷ [])).whole p.1 p.0 (k.whole p.0 w) (a.whole w);
    talk = a.talk;
    took = took_push v.number L x v.untaken a.takes k.took;
    in_turn = λ w. in_turn_push v.number L x v.untaken k.took (a.in_turn w) (k.in_turn w);
    owes = λ ea w. owes_push early s v L n x k a w ea;
    stops = stops_push s.conn v n L x k.stops;
  }
