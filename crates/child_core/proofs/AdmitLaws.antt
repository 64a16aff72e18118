-- What fits may come next, and so may an act that is due.
use Rattle.std.proofs.Common.{◌≡◌, ℕ, ◌+◌, ◌≤◌, List, [], ◌∷◌, Bool, true, false, ◌||◌, ◌&&◌, refl, sym, ◌∙◌, ap, arith}
use Rattle.std.specs.Prelude.{if◌then◌else◌, ◌==◌, not, nat_le}
use Rattle.std.proofs.lemmas.Bool.{and_parts, not-true, eqb-true, leb-true}
use Rattle.std.proofs.lemmas.Bool.Decides.{nat_tests}
use Rattle.host_trace.specs.declared.items.Event.{Event}
use Rattle.host_trace.specs.declared.items.Event.TheVariants.{Started, StartFailed, StartFull, ChildBytes, ChildEof, ChildBroken, Took, InputGone, Exited}
use Rattle.host_trace.specs.declared.items.Item.{Item}
use Rattle.host_trace.specs.declared.items.Item.TheVariants.{In}
use Rattle.host_trace.specs.Fits.{fits, is_start_open, is_output_asked, may_take, is_piece}
use Rattle.host_trace.specs.Kinds.{names_child, is_start_answer, is_started, is_start_failed, is_start_full, is_exited, is_child_answer, is_child_eof, count_took}
use Rattle.host_trace.specs.Projections.{started, exited, input_ended, took_sum, start_answered}
use Rattle.host_trace.specs.Account.{start_refused}
use Rattle.child_core.specs.View.{View, Note}
use Rattle.child_core.specs.Calls.{may_come, fits_run}
use Rattle.child_core.specs.Setting.{Setting}
use Rattle.child_core.specs.Knows.{KnowsRun, Admits, Offers}
use Rattle.child_core.proofs.EndLaws.{wanted_is}
use Rattle.child_core.proofs.WordLaws.{start_answer_names, answer_names}

-- ---- fits is exact

-- whether a start was answered, by its two answers
answered_is : (k : ℕ) (L : List Item) → start_answered L k ≡ (started L k || start_refused L k)
answered_is k [] = refl
answered_is k (x ∷ L) = ap (λ b. is_start_answer k x || b) (answered_is k L) ∙ go (is_started k x) (is_start_failed k x) (is_start_full k x) (started L k) (start_refused L k)
  where
    go : (a b c s r : Bool) → ((a || b || c) || (s || r)) ≡ ((a || s) || ((b || c) || r))
    go true b c s r = refl
    go false true c true r = refl
    go false true c false r = refl
    go false false true true r = refl
    go false false true false r = refl
    go false false false s r = refl

le_room : (t u n m : ℕ) → t + u ≡ m → nat_le (t + n) m ≡ nat_le n u
le_room t u n m e = grind (arith, nat_tests)

module _ (early : Bool) (s : Setting) (v : View) (L : List Item) (k : KnowsRun early s v L) where
  open_is : is_start_open L v.number ≡ not (v.started || v.refused)
  open_is = rw (answered_is v.number L, ← k.started, ← k.refused, k.begun) refl

  output_is : is_output_asked L v.number ≡ (v.started && not v.output_ended && v.asked)
  output_is = rw (wanted_is early s v L k, ← k.started, ← k.output_ended) refl

  take_is : (n : ℕ) → may_take L v.number n ≡ (v.started && nat_le 1 n && nat_le n v.untaken)
  take_is n = rw (le_room (took_sum L v.number) v.untaken n _ k.took, ← k.started) refl

  at : (P : ℕ → Bool) (d : ℕ) (b : Bool) → P v.number ≡ b → (v.number == d) ≡ true → P d ≡ b
  at P d b is same = ap P (sym (eqb-true v.number d same)) ∙ is

  -- an event of the child fits the list exactly where it fits the run
  pub may_come_is : (ev : Event) → names_child v.number (In ev) ≡ true → fits s.limits.children L ev ≡ may_come v ev
  may_come_is (Started d) e = at (is_start_open L) d _ open_is e
  may_come_is (StartFailed d) e = at (is_start_open L) d _ open_is e
  may_come_is (StartFull d seen) e = at (λ j. is_start_open L j && seen == s.limits.children) d _ (rw (open_is, ← k.book) refl) e
  may_come_is (ChildBytes d bytes) e = at (λ j. is_output_asked L j && is_piece bytes) d _ (ap (λ b. b && is_piece bytes) output_is) e
  may_come_is (ChildEof d) e = at (is_output_asked L) d _ output_is e
  may_come_is (ChildBroken d) e = at (is_output_asked L) d _ output_is e
  may_come_is (Took d n) e = at (λ j. may_take L j n) d _ (take_is n) e
  may_come_is (InputGone d) e = at (λ j. started L j && not (input_ended L j)) d _ (rw (← k.started, ← k.input_ended) refl) e
  may_come_is (Exited d) e = at (λ j. started L j && not (exited L j)) d _ (rw (← k.started, ← k.exited) refl) e
  may_come_is ev e = absurd (cc)

  pub fits_is : (ev : Event) → names_child v.number (In ev) ≡ true → fits_run v ev ≡ fits s.limits.children L ev
  fits_is ev e = rw e (sym (may_come_is ev e))

-- ---- an event that fits may come next

module _ (early : Bool) (s : Setting) (v : View) (L : List Item) (n : Note) where
  event_with : (ev : Event) → Offers s v L n (In ev) →
      (is_start_answer v.number (In ev) ≡ true → (v.started || v.refused) ≡ false) → (is_exited v.number (In ev) ≡ true → v.exited ≡ false) →
      (is_child_answer v.number (In ev) ≡ true → v.asked ≡ true) → (is_child_eof v.number (In ev) ≡ true → v.output_ended ≡ false) →
      count_took v.number (In ev) ≤ v.untaken → Admits early s v L n (In ev)
  event_with ev o begins exits answers eof takes = record {
    start = refl;
    begins = begins;
    exits = exits;
    asks = λ e. absurd (cc);
    answers = answers;
    eof = eof;
    takes = takes;
    feeds = λ e. absurd (cc);
    front = refl;
    in_turn = λ w e. absurd (cc);
    deserved = λ a e. absurd (cc);
    refused = o.refused;
    body = o.body;
    whole = o.whole;
    done = o.done;
    talk = o.talk;
  }

  asked_parts : (a b c : Bool) → (a && b && c) ≡ true → (b ≡ true) × (c ≡ true)
  asked_parts a b c e = let p = and_parts (a && b) c e in ((and_parts a b p.0).1, p.1)

  took_le : (b : Bool) (m : ℕ) → (b ≡ true → m ≤ v.untaken) → (if b then m else 0) ≤ v.untaken
  took_le true m f = f refl
  took_le false m f = omega arith

  pub event-admits : KnowsRun early s v L → (ev : Event) → fits s.limits.children L ev ≡ true → Offers s v L n (In ev) → Admits early s v L n (In ev)
  event-admits k (Started d) f o = event_with (Started d) o
      (λ e. not-true _ (sym (may_come_is early s v L k (Started d) (start_answer_names v.number (In (Started d)) e)) ∙ f))
      (λ e. absurd (cc)) (λ e. absurd (cc)) (λ e. absurd (cc)) (omega arith)
  event-admits k (StartFailed d) f o = event_with (StartFailed d) o
      (λ e. not-true _ (sym (may_come_is early s v L k (StartFailed d) (start_answer_names v.number (In (StartFailed d)) e)) ∙ f))
      (λ e. absurd (cc)) (λ e. absurd (cc)) (λ e. absurd (cc)) (omega arith)
  event-admits k (StartFull d seen) f o = event_with (StartFull d seen) o
      (λ e. not-true _ (and_parts (not (v.started || v.refused)) (seen == v.book) (sym (may_come_is early s v L k (StartFull d seen) (start_answer_names v.number (In (StartFull d seen)) e)) ∙ f)).0)
      (λ e. absurd (cc)) (λ e. absurd (cc)) (λ e. absurd (cc)) (omega arith)
  event-admits k (ChildBytes d bytes) f o = event_with (ChildBytes d bytes) o
      (λ e. absurd (cc)) (λ e. absurd (cc))
      (λ e. (asked_parts v.started (not v.output_ended) v.asked (and_parts (v.started && not v.output_ended && v.asked) (is_piece bytes) (sym (may_come_is early s v L k (ChildBytes d bytes) (answer_names v.number (In (ChildBytes d bytes)) e)) ∙ f)).0).1)
      (λ e. absurd (cc)) (omega arith)
  event-admits k (ChildEof d) f o = event_with (ChildEof d) o
      (λ e. absurd (cc)) (λ e. absurd (cc))
      (λ e. (asked_parts v.started (not v.output_ended) v.asked (sym (may_come_is early s v L k (ChildEof d) (answer_names v.number (In (ChildEof d)) e)) ∙ f)).1)
      (λ e. not-true _ (asked_parts v.started (not v.output_ended) v.asked (sym (may_come_is early s v L k (ChildEof d) e) ∙ f)).0) (omega arith)
  event-admits k (ChildBroken d) f o = event_with (ChildBroken d) o
      (λ e. absurd (cc)) (λ e. absurd (cc))
      (λ e. (asked_parts v.started (not v.output_ended) v.asked (sym (may_come_is early s v L k (ChildBroken d) (answer_names v.number (In (ChildBroken d)) e)) ∙ f)).1)
      (λ e. absurd (cc)) (omega arith)
  event-admits k (Took d m) f o = event_with (Took d m) o
      (λ e. absurd (cc)) (λ e. absurd (cc)) (λ e. absurd (cc)) (λ e. absurd (cc))
      (took_le (v.number == d) m (λ e. leb-true m v.untaken (and_parts (v.started && nat_le 1 m) (nat_le m v.untaken) (sym (may_come_is early s v L k (Took d m) e) ∙ f)).1))
  event-admits k (Exited d) f o = event_with (Exited d) o
      (λ e. absurd (cc)) (λ e. not-true _ (and_parts v.started (not v.exited) (sym (may_come_is early s v L k (Exited d) e) ∙ f)).1)
      (λ e. absurd (cc)) (λ e. absurd (cc)) (omega arith)
  event-admits k ev f o = event_with ev o (λ e. absurd (cc)) (λ e. absurd (cc)) (λ e. absurd (cc)) (λ e. absurd (cc)) (omega arith)
