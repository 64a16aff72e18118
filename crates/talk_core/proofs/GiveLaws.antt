-- With each act that may come a talk and its run know the list.
use Rattle.std.proofs.Common.{◌≡◌, ℕ, List, [], ◌∷◌, ◌++◌, Bool, true, false, ◌||◌, ◌&&◌, refl, sym, ◌∙◌, ap, Option, Some, None, append-nil, append_assoc, map, subst, inl, inr, length, take}
use Rattle.std.specs.Prelude.{if◌then◌else◌, ◌==◌, not, min, is_some}
use Rattle.std.proofs.lemmas.Bool.{cases_Bool, and_parts, or_left, eq-eqb, false≢true, true≢false}
use Rattle.std.proofs.Math.Seq.{take-length, drop-length}
use Rattle.host_base.specs.declared.limits.Limits.{Limits}
use Rattle.host_trace.specs.declared.items.Act.{Act}
use Rattle.host_trace.specs.declared.items.Act.TheVariants.{WantClient, Write, Shut, Start, Feed, EndInput, WantChild, Kill, Release, Upgrade, Says, CloseWs}
use Rattle.host_trace.specs.declared.items.Item.{Item}
use Rattle.host_trace.specs.declared.items.Item.TheVariants.{Out}
use Rattle.host_trace.specs.declared.items.Why.{Why}
use Rattle.host_trace.specs.First.{first_front, or_else}
use Rattle.host_trace.specs.Kinds.{is_shut, is_kill, is_no_memory, names_child, texts_said}
use Rattle.host_trace.specs.Projections.{child_out, said, shut}
use Rattle.host_trace.specs.Decider.{is_websocket}
use Rattle.host_trace.proofs.ProjectionLaws.{child_out-push, output_eof-push, said-push, shut-push}
use Rattle.head_lines.specs.Lines.{with_lf}
use Rattle.line_messages.specs.Lines.{has_long_line, input, open_line}
use Rattle.trace_child.specs.Words.{is_filled}
use Rattle.trace_model.specs.Talk.{input_due, piece_fed, pieces_fed, close_code, codes_sent, code_due, ends_talk}
use Rattle.child_core.specs.declared.ending.Outcome.{Outcome}
use Rattle.child_core.specs.View.{View as RunView, plain, noted, verdict, without, cleared, is_output, is_other}
use Rattle.child_core.specs.Due.{Due as RunDue, is_feed_due, is_input_due, is_kill_due, is_release_due, wants_input_end, wants_kill, wants_release, is_fed_whole, is_left_alone, has_lingered}
use Rattle.child_core.specs.Knows.{KnowsRun, Offers}
use Rattle.child_core.proofs.ActLaws.{and_false, or_none, due_filled}
use Rattle.child_core.proofs.DecideLaws.{Counts, row_is}
use Rattle.child_core.proofs.KnowsLaws.{Knows-noted}
use Rattle.child_core.proofs.MemoryLaws.{due-may}
use Rattle.child_core.proofs.TellLaws.{noted-other, other-admits, still-offers}
use Rattle.talk_core.specs.View.{View, given_up}
use Rattle.talk_core.specs.Setting.{setting}
use Rattle.talk_core.specs.Knows.{KnowsTalk, StandsFor, run_of, waiting, codes}
use Rattle.talk_core.specs.Laws.{MayShut, ActsAreKnown, TextsAreHeard}
use Rattle.talk_core.proofs.ItemLaws.{or_false, texts_out, taken_quiet, pieces_fed-push, codes_sent-push, end_stays, is_end, code_stays, code_none, code_new, code_open}
use Rattle.talk_core.proofs.HearLaws.{cleared_nil, unfed_none, shut_since-push, out_since-push}

pub texts_are_heard : TextsAreHeard
texts_are_heard c k limits L act = ap (λ l. record { body = input l; whole = true }) (taken_quiet c k limits.ws_text L (Out act) refl)

-- ---- small laws

without_all : (u : List ℕ) → without u u ≡ []
without_all [] = refl
without_all (b ∷ u) = drop-length (b ∷ u)

waiting_filled : (u : List ℕ) → is_filled u ≡ true → waiting u ≡ u ∷ []
waiting_filled [] e = absurd (false≢true e)
waiting_filled (b ∷ u) e = refl

-- a run that is to be killed or released is decided, or its client hung up
kill_done : (o : Option Outcome) (h a l : Bool) → (is_some o && not (is_output o) || h && not (is_some o) && a || is_output o && l) ≡ true → (is_some o || h) ≡ true
kill_done (Some x) h a l e = refl
kill_done None true a l e = refl
kill_done None false a l e = absurd (false≢true e)

release_done : (o : Option Outcome) (h a k : Bool) → (is_some o && not (is_output o) || h && not (is_some o) && a || k) ≡ true → (is_some o || h || k) ≡ true
release_done (Some x) h a k e = refl
release_done None true a k e = refl
release_done None false a k e = e

module _ (early : Bool) (c : ℕ) (limits : Limits) (t : View) (v : RunView) (L : List Item) (s : StandsFor early c limits t v L) where
  act_offers : (act : Act) → Offers (setting c v.number limits) v L plain (Out act)
  act_offers act = still-offers early (setting c v.number limits) v L act (texts_are_heard c v.number limits) s.run

  act_counts : (act : Act) → Counts (setting c v.number limits) v plain L (Out act)
  act_counts act = record {
    left = λ w. absurd (true≢false (sym s.talk.kind ∙ w));
    within = λ w. absurd (true≢false (sym s.talk.kind ∙ w));
    time = λ w. absurd (true≢false (sym s.talk.kind ∙ w));
    whole = λ w. absurd (true≢false (sym s.talk.kind ∙ w));
    talk = λ w. refl;
    refused = (act_offers act).refused;
  }

  ends_by : (act : Act) → ends_talk (run_of c limits v) L (Out act) ≡ is_some (verdict c v plain (Out act))
  ends_by act = ap (λ b. b || false) (row_is (setting c v.number limits) v plain L (Out act) (act_counts act) s.run.begun) ∙ or_false _

  -- what the run knows of an act that doesn't name its child, and of one that is due for it
  run_other : (act : Act) → names_child v.number (Out act) ≡ false → KnowsRun early (setting c v.number limits) (noted c v plain (Out act)) (L ++ Out act ∷ [])
  run_other act unnamed = Knows-noted early (setting c v.number limits) v L plain (Out act) s.run (other-admits early (setting c v.number limits) v L plain (Out act) unnamed (act_offers act))

  run_due : (may : Bool) (act : Act) → RunDue may v act → KnowsRun early (setting c v.number limits) (noted c v plain (Out act)) (L ++ Out act ∷ [])
  run_due may act due =
      Knows-noted early (setting c v.number limits) v L plain (Out act) s.run
      (due-may early (setting c v.number limits) (texts_are_heard c v.number limits) may v L act s.run due).admits

  input_same : (act : Act) → input_due (run_of c limits v) (L ++ Out act ∷ []) ≡ input_due (run_of c limits v) L
  input_same act = ap (map with_lf) (taken_quiet c v.number limits.ws_text L (Out act) refl)

  out_same : (act : Act) → child_out (L ++ Out act ∷ []) v.number ≡ child_out L v.number
  out_same act = child_out-push L (Out act) v.number ∙ append-nil _

  -- an act that neither decides the run nor shuts the connection
  module _ (act : Act) (ts : List (List ℕ)) (cd : Option ℕ) (quiet : verdict c v plain (Out act) ≡ None) (unshut : is_shut c (Out act) ≡ false)
      (says : texts_said c (Out act) ++ ts ≡ t.texts) (feeds : piece_fed v.number (Out act) ++ waiting (noted c v plain (Out act)).unfed ≡ waiting v.unfed)
      (sends : close_code c (Out act) ++ codes cd ≡ codes t.code) (kills : is_kill v.number (Out act) ≡ true → t.over ≡ true)
      (due : is_filled (noted c v plain (Out act)).unfed ≡ true → is_feed_due (noted c v plain (Out act)) ≡ true)
      (spent : t.over ≡ true → (noted c v plain (Out act)).unfed ≡ []) where
    ends_none : ends_talk (run_of c limits v) L (Out act) ≡ false
    ends_none = ends_by act ∙ ap is_some quiet

    over_same : t.over ≡ is_some (first_front (ends_talk (run_of c limits v)) (L ++ Out act ∷ []))
    over_same = elim (cases_Bool t.over) [
      | inl over ↦ s.talk.over ∙ sym (ap is_some (end_stays (run_of c limits v) L (Out act) (sym s.talk.over ∙ over)))
      | inr on ↦ on ∙ is_end (run_of c limits v) L (Out act) false (sym s.talk.over ∙ on) ends_none
    ]

    due_same : code_due (run_of c limits v) (L ++ Out act ∷ []) ≡ code_due (run_of c limits v) L
    due_same = elim (cases_Bool t.over) [
      | inl over ↦ code_stays (run_of c limits v) L (Out act) (sym s.talk.over ∙ over)
      | inr on ↦ code_open (run_of c limits v) L (Out act) (sym s.talk.over ∙ on) ends_none ∙ sym (code_none (run_of c limits v) L (Out act) (sym s.talk.over ∙ on))
    ]

    done_same : is_kill v.number (Out act) ≡ false → (is_some (noted c v plain (Out act)).outcome || (noted c v plain (Out act)).hung_up || (noted c v plain (Out act)).killed) ≡ (is_some v.outcome || v.hung_up || v.killed)
    done_same alive =
        ap (λ o. is_some o || (noted c v plain (Out act)).hung_up || (noted c v plain (Out act)).killed) (ap (or_else v.outcome) quiet ∙ or_none v.outcome)
        ∙ (ap (λ b. is_some v.outcome || (b || v.hung_up) || (noted c v plain (Out act)).killed) (and_false (is_websocket v.kind))
        ∙ ap (λ b. is_some v.outcome || v.hung_up || (b || v.killed)) alive)

    framed : KnowsTalk c limits (record t { texts = ts; code = cd }) (noted c v plain (Out act)) (L ++ Out act ∷ [])
    framed = record {
      conn = s.talk.conn;
      child = s.talk.child;
      limit = s.talk.limit;
      kind = s.talk.kind;
      whole = ap (λ b. not (is_some (verdict c v plain (Out act))) && b) s.talk.whole ∙ and_false _;
      shut_since = shut_since-push v.number c L (Out act) s.run.begun s.talk.shut_since;
      out_since = out_since-push v.number L (Out act) s.run.begun s.talk.out_since;
      over = over_same;
      shut_over = λ e. s.talk.shut_over (sym (shut-push L (Out act) c ∙ (ap (λ b. shut L c || b) unshut ∙ or_false _)) ∙ e);
      done_over = λ e. elim (cases_Bool (is_kill v.number (Out act))) [
        | inl kill ↦ kills kill
        | inr alive ↦ s.talk.done_over (sym (done_same alive) ∙ e)
      ];
      eof = λ e. output_eof-push L (Out act) v.number ∙ (or_false _ ∙ s.talk.eof e);
      short = λ e. ap (has_long_line t.limit) (out_same act) ∙ s.talk.short e;
      rest = λ e. s.talk.rest e ∙ sym (ap open_line (out_same act));
      said =
          ap (λ l. l ++ ts) (said-push L (Out act) c)
          ∙ (append_assoc (said L c) (texts_said c (Out act)) ts
          ∙ (ap (λ l. said L c ++ l) says ∙ (s.talk.said ∙ sym (texts_out (run_of c limits v) L act))));
      fed =
          ap (λ l. l ++ waiting (noted c v plain (Out act)).unfed) (pieces_fed-push L (Out act) v.number)
          ∙ (append_assoc (pieces_fed L v.number) (piece_fed v.number (Out act)) (waiting (noted c v plain (Out act)).unfed)
          ∙ (ap (λ l. pieces_fed L v.number ++ l) feeds ∙ (s.talk.fed ∙ sym (input_same act))));
      due = due;
      spent = spent;
      code =
          ap (λ l. l ++ codes cd) (codes_sent-push L (Out act) c)
          ∙ (append_assoc (codes_sent L c) (close_code c (Out act)) (codes cd)
          ∙ (ap (λ l. codes_sent L c ++ l) sends ∙ (s.talk.code ∙ sym due_same)));
    }

  -- ---- acts of the connection

  of_conn : (d : ℕ) → d ≡ t.conn → (c == d) ≡ true
  of_conn d is = eq-eqb c d (sym (is ∙ s.talk.conn))

  still_due : (act : Act) → noted c v plain (Out act) ≡ v → is_filled (noted c v plain (Out act)).unfed ≡ true → is_feed_due (noted c v plain (Out act)) ≡ true
  still_due act same f = subst (λ w. is_filled w.unfed ≡ true → is_feed_due w ≡ true) (sym same) s.talk.due f

  says_known : (d : ℕ) (texts : List (List ℕ)) → (d ≡ t.conn) × (texts ≡ t.texts)
      → StandsFor early c limits (record t { texts = [] }) (noted c v plain (Out (Says d texts))) (L ++ Out (Says d texts) ∷ [])
  says_known d texts m = record {
    run = run_other (Says d texts) refl;
    talk =
        framed (Says d texts) [] t.code refl refl (ap (λ b. (if b then texts else []) ++ []) (of_conn d m.0) ∙ (append-nil texts ∙ m.1)) refl refl (λ e. absurd (false≢true e))
        (still_due (Says d texts) (noted-other c v (Out (Says d texts)) refl)) s.talk.spent;
  }

  sends_known : (d code : ℕ) → (d ≡ t.conn) × (t.code ≡ Some code)
      → StandsFor early c limits (record t { code = None }) (noted c v plain (Out (CloseWs d code))) (L ++ Out (CloseWs d code) ∷ [])
  sends_known d code m = record {
    run = run_other (CloseWs d code) refl;
    talk =
        framed (CloseWs d code) t.texts None refl refl refl refl (ap (λ b. (if b then code ∷ [] else []) ++ []) (of_conn d m.0) ∙ sym (ap codes m.1)) (λ e. absurd (false≢true e))
        (still_due (CloseWs d code) (noted-other c v (Out (CloseWs d code)) refl)) s.talk.spent;
  }

  asks_known : (d : ℕ) → StandsFor early c limits t (noted c v plain (Out (WantClient d))) (L ++ Out (WantClient d) ∷ [])
  asks_known d = record {
    run = run_other (WantClient d) refl;
    talk =
        framed (WantClient d) t.texts t.code refl refl refl refl refl (λ e. absurd (false≢true e))
        (still_due (WantClient d) (noted-other c v (Out (WantClient d)) refl)) s.talk.spent;
  }

  -- ---- acts of the child

  module _ (may : Bool) where
    feeds_known : (d : ℕ) (bytes : List ℕ) → RunDue may v (Feed d bytes) → StandsFor early c limits t (noted c v plain (Out (Feed d bytes))) (L ++ Out (Feed d bytes) ∷ [])
    feeds_known d bytes m =
        let same : (v.number == d) ≡ true = eq-eqb v.number d (sym m.0) in
        let all : bytes ≡ v.unfed = m.1 ∙ (ap (λ b. take (if b then length v.unfed else min 65536 (length v.unfed)) v.unfed) s.talk.kind ∙ take-length v.unfed) in
        let empty : (noted c v plain (Out (Feed d bytes))).unfed ≡ [] =
        ap (λ b. without (if b then bytes else []) v.unfed) same ∙ (ap (λ p. without p v.unfed) all ∙ without_all v.unfed) in
        let piece : piece_fed v.number (Out (Feed d bytes)) ++ waiting (noted c v plain (Out (Feed d bytes))).unfed ≡ waiting v.unfed =
        ap (λ b. (if b then bytes ∷ [] else []) ++ waiting (noted c v plain (Out (Feed d bytes))).unfed) same
        ∙ (ap (λ u. (bytes ∷ []) ++ waiting u) empty ∙ (ap (λ b. b ∷ []) all ∙ sym (waiting_filled v.unfed (due_filled v m.2)))) in
        record {
          run = run_due may (Feed d bytes) m;
          talk =
              framed (Feed d bytes) t.texts t.code refl refl refl piece refl (λ e. absurd (false≢true e))
              (λ f. absurd (false≢true (sym (ap is_filled empty) ∙ f))) (λ e. empty);
        }

    -- an act on a child whose talk is over
    past_known : (act : Act) → t.over ≡ true → RunDue may v act → verdict c v plain (Out act) ≡ None → is_shut c (Out act) ≡ false → texts_said c (Out act) ≡ []
        → piece_fed v.number (Out act) ≡ [] → close_code c (Out act) ≡ [] → (noted c v plain (Out act)).unfed ≡ v.unfed
        → StandsFor early c limits t (noted c v plain (Out act)) (L ++ Out act ∷ [])
    past_known act over m quiet unshut nothing none unsent same =
        let empty : (noted c v plain (Out act)).unfed ≡ [] = same ∙ s.talk.spent over in
        record {
          run = run_due may act m;
          talk =
              framed act t.texts t.code quiet unshut (ap (λ l. l ++ t.texts) nothing)
              (ap (λ l. l ++ waiting (noted c v plain (Out act)).unfed) none ∙ ap waiting same) (ap (λ l. l ++ codes t.code) unsent) (λ e. over)
              (λ f. absurd (false≢true (sym (ap is_filled empty) ∙ f))) (λ e. empty);
        }

    over_of : (is_some v.outcome || v.hung_up) ≡ true → t.over ≡ true
    over_of e = s.talk.done_over (or_left (is_some v.outcome || v.hung_up) v.killed e)

    input_over : is_input_due v ≡ true → t.over ≡ true
    input_over e =
        let p = and_parts (wants_input_end v) (not v.input_ended) e in
        let q = and_parts v.started (is_some v.outcome || v.hung_up || not v.exited && is_fed_whole v) p.0 in
        let talks : is_fed_whole v ≡ false = ap (λ b. not b && v.whole && not (is_filled v.unfed)) s.talk.kind in
        over_of (sym (ap (λ b. is_some v.outcome || v.hung_up || not v.exited && b) talks
        ∙ (ap (λ b. is_some v.outcome || v.hung_up || b) (and_false (not v.exited)) ∙ or_false (is_some v.outcome || v.hung_up))) ∙ q.1)

    kill_over : is_kill_due v ≡ true → t.over ≡ true
    kill_over e =
        let p = and_parts (wants_kill v) (not v.killed) e in
        let q = and_parts (v.started && not v.exited) (is_other v.outcome || is_left_alone v || has_lingered v) p.0 in
        over_of (kill_done v.outcome v.hung_up _ _ q.1)

    release_over : is_release_due v ≡ true → t.over ≡ true
    release_over e =
        let p = and_parts (wants_release v) (not v.output_ended) e in
        let q = and_parts (v.started && v.exited) (is_other v.outcome || is_left_alone v || v.killed) p.0 in
        s.talk.done_over (release_done v.outcome v.hung_up _ v.killed q.1)

    asks_child : (d : ℕ) → RunDue may v (WantChild d) → StandsFor early c limits t (noted c v plain (Out (WantChild d))) (L ++ Out (WantChild d) ∷ [])
    asks_child d m =
        let same : is_feed_due (noted c v plain (Out (WantChild d))) ≡ is_feed_due v =
        ap (λ o. v.started && not (is_some o) && not v.exited && not v.input_ended && is_filled v.unfed && v.untaken == 0) (or_none v.outcome) in
        record {
          run = run_due may (WantChild d) m;
          talk = framed (WantChild d) t.texts t.code refl refl refl refl refl (λ e. absurd (false≢true e)) (λ f. same ∙ s.talk.due f) s.talk.spent;
        }

  -- ---- the end of the connection

  shuts_known : (d : ℕ) (why : Why) → MayShut t v d why → StandsFor early c limits (given_up t) (noted c v plain (Out (Shut d why))) (L ++ Out (Shut d why) ∷ [])
  shuts_known d why m =
      let empty : (noted c v plain (Out (Shut d why))).unfed ≡ [] =
      ap (cleared (is_some (verdict c v plain (Out (Shut d why))))) (unfed_none v s.talk.due m.fed) ∙ cleared_nil (is_some (verdict c v plain (Out (Shut d why)))) in
      record {
        run = run_other (Shut d why) refl;
        talk = record {
          conn = s.talk.conn;
          child = s.talk.child;
          limit = s.talk.limit;
          kind = s.talk.kind;
          whole = ap (λ b. not (is_some (verdict c v plain (Out (Shut d why)))) && b) s.talk.whole ∙ and_false _;
          shut_since = shut_since-push v.number c L (Out (Shut d why)) s.run.begun s.talk.shut_since;
          out_since = out_since-push v.number L (Out (Shut d why)) s.run.begun s.talk.out_since;
          over = is_over;
          shut_over = λ e. refl;
          done_over = λ e. refl;
          eof = λ e. absurd (true≢false e);
          short = λ e. absurd (true≢false e);
          rest = λ e. absurd (true≢false e);
          said =
              ap (λ l. l ++ []) (said-push L (Out (Shut d why)) c ∙ append-nil _)
              ∙ (ap (λ l. said L c ++ l) (sym m.texts) ∙ (s.talk.said ∙ sym (texts_out (run_of c limits v) L (Shut d why))));
          fed =
              ap (λ l. l ++ waiting (noted c v plain (Out (Shut d why))).unfed) (pieces_fed-push L (Out (Shut d why)) v.number ∙ append-nil _)
              ∙ (ap (λ u. pieces_fed L v.number ++ waiting u) (empty ∙ sym (unfed_none v s.talk.due m.fed)) ∙ (s.talk.fed ∙ sym (input_same (Shut d why))));
          due = λ f. absurd (false≢true (sym (ap is_filled empty) ∙ f));
          spent = λ e. empty;
          code =
              ap (λ l. l ++ []) (codes_sent-push L (Out (Shut d why)) c ∙ append-nil _)
              ∙ (ap (λ o. codes_sent L c ++ codes o) (sym m.code) ∙ (s.talk.code ∙ sym code_same));
        };
      }
    where
      forgets : t.over ≡ false → ends_talk (run_of c limits v) L (Out (Shut d why)) ≡ true
      forgets on =
          let memory : is_no_memory why ≡ true = sym (ap (λ b. b || is_no_memory why) on) ∙ m.why in
          ends_by (Shut d why) ∙ rw (of_conn d m.conn, memory) refl

      is_over : true ≡ is_some (first_front (ends_talk (run_of c limits v)) (L ++ Out (Shut d why) ∷ []))
      is_over = elim (cases_Bool t.over) [
        | inl over ↦ sym over ∙ (s.talk.over ∙ sym (ap is_some (end_stays (run_of c limits v) L (Out (Shut d why)) (sym s.talk.over ∙ over))))
        | inr on ↦ is_end (run_of c limits v) L (Out (Shut d why)) true (sym s.talk.over ∙ on) (forgets on)
      ]

      code_same : code_due (run_of c limits v) (L ++ Out (Shut d why) ∷ []) ≡ code_due (run_of c limits v) L
      code_same = elim (cases_Bool t.over) [
        | inl over ↦ code_stays (run_of c limits v) L (Out (Shut d why)) (sym s.talk.over ∙ over)
        | inr on ↦
            code_new (run_of c limits v) L (Out (Shut d why)) (sym s.talk.over ∙ on) (forgets on)
            ∙ sym (code_none (run_of c limits v) L (Out (Shut d why)) (sym s.talk.over ∙ on))
      ]

pub acts_are_known : ActsAreKnown
acts_are_known early may c limits t v L (Says d texts) s m = says_known early c limits t v L s d texts m
acts_are_known early may c limits t v L (CloseWs d code) s m = sends_known early c limits t v L s d code m
acts_are_known early may c limits t v L (Shut d why) s m = shuts_known early c limits t v L s d why m
acts_are_known early may c limits t v L (WantClient d) s m = asks_known early c limits t v L s d
acts_are_known early may c limits t v L (Feed d bytes) s m = feeds_known early c limits t v L s may d bytes m
acts_are_known early may c limits t v L (EndInput d) s m = past_known early c limits t v L s may (EndInput d) (input_over early c limits t v L s may m.1) m refl refl refl refl refl refl
acts_are_known early may c limits t v L (Kill d) s m = past_known early c limits t v L s may (Kill d) (kill_over early c limits t v L s may m.1) m refl refl refl refl refl refl
acts_are_known early may c limits t v L (Release d) s m = past_known early c limits t v L s may (Release d) (release_over early c limits t v L s may m.1) m refl refl refl refl refl refl
acts_are_known early may c limits t v L (WantChild d) s m = asks_child early c limits t v L s may d m
acts_are_known early may c limits t v L _ s m = absurd m
