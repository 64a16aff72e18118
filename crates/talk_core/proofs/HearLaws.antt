-- A talk that hears an event, and its run, know the list with it.
use Rattle.std.proofs.Common.{◌≡◌, ℕ, List, [], ◌∷◌, ◌++◌, Bool, true, false, ◌||◌, ◌&&◌, refl, sym, ◌∙◌, ap, None, append-nil, map, subst, inl, inr, length}
use Rattle.std.specs.Prelude.{if◌then◌else◌, ◌==◌, not, nat_lt, is_some, filter}
use Rattle.std.specs.List.{list_any}
use Rattle.std.proofs.lemmas.Bool.{cases_Bool, or_parts, and_parts, not-true, false≢true, true≢false}
use Rattle.std.proofs.lemmas.Grind.{flat_map-append}
use Rattle.std.proofs.lemmas.List.{map-append}
use Rattle.host_base.specs.declared.limits.Limits.{Limits}
use Rattle.host_trace.specs.declared.items.Event.{Event}
use Rattle.host_trace.specs.declared.items.Event.TheVariants.{StartFailed, StartFull, ChildBytes, ChildEof, ChildBroken, WsText, WsBinary}
use Rattle.host_trace.specs.declared.items.Item.{Item}
use Rattle.host_trace.specs.declared.items.Item.TheVariants.{In}
use Rattle.host_trace.specs.First.{since, first_front, or_else}
use Rattle.host_trace.specs.Kinds.{is_start, is_shut, is_child_eof, is_ws_text, is_ws_closed, output_heard, texts_heard}
use Rattle.host_trace.specs.Projections.{child_out, output_eof, said, shut}
use Rattle.host_trace.specs.Decider.{is_websocket, is_long_text, makes_long_line, has_long_line as has_long_run}
use Rattle.host_trace.proofs.ProjectionLaws.{child_out-push, output_eof-push, said-push, shut-push}
use Rattle.head_lines.specs.Lines.{with_lf}
use Rattle.line_messages.specs.Lines.{has_long_line, input, last_within, lines_within, open_line}
use Rattle.line_messages.proofs.JoinLemmas.{HasNoLf-open_line, behind_alone, joins, long_joined, within_joined}
use Rattle.trace_child.specs.Words.{is_filled}
use Rattle.trace_model.specs.Talk.{messages_by, texts_due, input_due, pieces_fed, code_by, codes_sent, code_due, ends_input, ends_talk, is_short}
use Rattle.child_core.specs.View.{View as RunView, Note, plain, noted, cleared, more_if, verdict}
use Rattle.child_core.specs.Calls.{takes_input, wants_more, wants_text}
use Rattle.child_core.specs.Due.{is_feed_due}
use Rattle.child_core.specs.Knows.{Offers}
use Rattle.child_core.proofs.WordLaws.{contra, more_if-counts, since_begun}
use Rattle.child_core.proofs.ActLaws.{and_false}
use Rattle.child_core.proofs.DecideLaws.{Counts, row_is}
use Rattle.child_core.proofs.KnowsLaws.{Knows-noted}
use Rattle.child_core.proofs.TellLaws.{run-admits}
use Rattle.talk_core.specs.View.{View}
use Rattle.talk_core.specs.Hearing.{kept, too_long, line_of, text_line, note_of, run_heard, messages, rest_after, rest_of, code_of, code_if, when_named, ends, heard}
use Rattle.talk_core.specs.Setting.{setting, texts_taken}
use Rattle.talk_core.specs.Knows.{StandsFor, run_of, waiting, codes}
use Rattle.talk_core.specs.Laws.{MayHear, EventsAreKnown}
use Rattle.talk_core.proofs.LineLaws.{short_rest}
use Rattle.talk_core.proofs.ItemLaws.{or_false, none_of, messages_quiet, texts_stay, texts_open, ends_input_is, taken_quiet, taken_past, taken_more, pieces_fed-push, codes_sent-push, end_stays, is_end, code_stays, code_none, code_new, code_open}

-- ---- small laws

pub cleared_nil : (b : Bool) → cleared b [] ≡ []
cleared_nil true = refl
cleared_nil false = refl

kept_nil : (b : Bool) → kept b [] ≡ []
kept_nil true = refl
kept_nil false = refl

pub empty_of : (u : List ℕ) → is_filled u ≡ false → u ≡ []
empty_of [] e = refl
empty_of (b ∷ u) e = absurd (true≢false e)

pub unfed_none : (v : RunView) → (is_filled v.unfed ≡ true → is_feed_due v ≡ true) → is_feed_due v ≡ false → v.unfed ≡ []
unfed_none v due rests = empty_of v.unfed (contra (is_filled v.unfed) (is_feed_due v) due rests)

no_text : (c : ℕ) (x : Item) → is_ws_text c x ≡ false → texts_heard c x ≡ []
no_text c (In (WsText d bytes)) e = rw e refl
no_text c x e = refl

pub shut_since-push : (k c : ℕ) (L : List Item) (x : Item) → list_any (is_start k) L ≡ true → shut (since (is_start k) L) c ≡ shut L c
    → shut (since (is_start k) (L ++ x ∷ [])) c ≡ shut (L ++ x ∷ []) c
shut_since-push k c L x begun e =
    ap (λ l. shut l c) (since_begun (is_start k) L x begun)
    ∙ (shut-push (since (is_start k) L) x c ∙ (ap (λ s. s || is_shut c x) e ∙ sym (shut-push L x c)))

pub out_since-push : (k : ℕ) (L : List Item) (x : Item) → list_any (is_start k) L ≡ true → child_out (since (is_start k) L) k ≡ child_out L k
    → child_out (since (is_start k) (L ++ x ∷ [])) k ≡ child_out (L ++ x ∷ []) k
out_since-push k L x begun e =
    ap (λ l. child_out l k) (since_begun (is_start k) L x begun)
    ∙ (child_out-push (since (is_start k) L) x k ∙ (ap (λ o. o ++ output_heard k x) e ∙ sym (child_out-push L x k)))

-- a talk of which nothing is due
abbrev pub at_rest : ℕ → ℕ → ℕ → List ℕ → Bool → View
at_rest c k limit rest over = record { conn = c; child = k; limit = limit; rest = rest; texts = []; code = None; over = over }

-- ---- a talk that is over

quiet_note : (c k limit : ℕ) (rest : List ℕ) (v : RunView) (ev : Event) → note_of (at_rest c k limit rest true) v ev ≡ plain
quiet_note c k limit rest v (WsText d bytes) = refl
quiet_note c k limit rest v (ChildBytes d bytes) = refl
quiet_note c k limit rest v ev = refl

module _ (early : Bool) (c : ℕ) (limits : Limits) (rest : List ℕ) (v : RunView) (L : List Item) (ev : Event)
    (s : StandsFor early c limits (at_rest c v.number limits.ws_text rest true) v L) (m : MayHear c (at_rest c v.number limits.ws_text rest true) v L ev) where
  no_text_heard : texts_heard c (In ev) ≡ []
  no_text_heard = no_text c (In ev) (contra (is_ws_text c (In ev)) false (λ is. sym (m.going is)) refl)

  over_taken : texts_taken c v.number limits.ws_text (L ++ In ev ∷ []) ≡ texts_taken c v.number limits.ws_text L
  over_taken = taken_quiet c v.number limits.ws_text L (In ev) no_text_heard

  over_offers : Offers (setting c v.number limits) v L plain (In ev)
  over_offers = record {
    refused = λ w. sym (ap (λ b. not b && (is_long_text limits c (In ev) || makes_long_line limits v.number (since (is_start v.number) L) (In ev))) (s.talk.shut_since ∙ m.shut refl));
    body = ap input over_taken ∙ sym (append-nil _);
    whole = λ w. refl;
    done = λ w e. refl;
    talk = λ w. refl;
  }

  over_unfed : (noted c v plain (In ev)).unfed ≡ []
  over_unfed = ap (cleared (is_some (verdict c v plain (In ev)))) (unfed_none v s.talk.due m.fed) ∙ cleared_nil _

  over_known : StandsFor early c limits (at_rest c v.number limits.ws_text rest true) (noted c v plain (In ev)) (L ++ In ev ∷ [])
  over_known = record {
    run = Knows-noted early (setting c v.number limits) v L plain (In ev) s.run (run-admits early (setting c v.number limits) v L plain ev s.run m.fits over_offers);
    talk = record {
      conn = refl;
      child = refl;
      limit = refl;
      kind = s.talk.kind;
      whole = ap (λ b. not (is_some (verdict c v plain (In ev))) && b) s.talk.whole ∙ and_false _;
      shut_since = shut_since-push v.number c L (In ev) s.run.begun s.talk.shut_since;
      out_since = out_since-push v.number L (In ev) s.run.begun s.talk.out_since;
      over = s.talk.over ∙ sym (ap is_some (end_stays (run_of c limits v) L (In ev) (sym s.talk.over)));
      shut_over = λ e. refl;
      done_over = λ e. refl;
      eof = λ e. absurd (true≢false e);
      short = λ e. absurd (true≢false e);
      rest = λ e. absurd (true≢false e);
      said =
          ap (λ l. l ++ []) (said-push L (In ev) c ∙ append-nil _)
          ∙ (s.talk.said ∙ sym (texts_stay (run_of c limits v) L (In ev) (m.shut refl)));
      fed =
          ap (λ l. l ++ waiting (noted c v plain (In ev)).unfed) (pieces_fed-push L (In ev) v.number ∙ append-nil _)
          ∙ (ap (λ w. pieces_fed L v.number ++ waiting w) (over_unfed ∙ sym (unfed_none v s.talk.due m.fed))
          ∙ (s.talk.fed ∙ sym (ap (map with_lf) over_taken)));
      due = λ e. absurd (false≢true (sym (ap is_filled over_unfed) ∙ e));
      spent = λ e. over_unfed;
      code =
          ap (λ l. l ++ []) (codes_sent-push L (In ev) c ∙ append-nil _)
          ∙ (s.talk.code ∙ sym (code_stays (run_of c limits v) L (In ev) (sym s.talk.over)));
    };
  }

  pub over_heard : StandsFor early c limits (at_rest c v.number limits.ws_text rest true) (run_heard (at_rest c v.number limits.ws_text rest true) v ev) (L ++ In ev ∷ [])
  over_heard =
      subst (λ n. StandsFor early c limits (at_rest c v.number limits.ws_text rest true) (noted c v n (In ev)) (L ++ In ev ∷ []))
      (sym (quiet_note c v.number limits.ws_text rest v ev)) over_known

-- ---- a talk that goes on

-- both words for a long line are one
same_test : (limit : ℕ) (output : List ℕ) → has_long_line limit output ≡ has_long_run limit output
unfolding has_long_line
same_test limit output = refl

-- the end of an output without a long line, by what stands behind its last LF
last_of_rest : (limit : ℕ) (output : List ℕ) → has_long_line limit output ≡ false → last_within limit (open_line output) ≡ last_within limit output
last_of_rest limit output short =
    rw (short, short_rest limit output short, behind_alone (open_line output) (HasNoLf-open_line output)) refl

-- a Feed is due
pub feed_due_from : (w : RunView) → w.started ≡ true → w.outcome ≡ None → w.exited ≡ false → w.input_ended ≡ false → is_filled w.unfed ≡ true → (w.untaken == 0) ≡ true → is_feed_due w ≡ true
feed_due_from w started undecided runs unended filled taken = rw (started, undecided, runs, unended, filled, taken) refl

takes_parts : (v : RunView) → takes_input v ≡ true → (v.exited ≡ false) × (v.input_ended ≡ false)
takes_parts v e =
    let a = or_parts (is_some v.outcome || v.input_ended || v.exited) v.whole (not-true _ e) in
    let b = or_parts (is_some v.outcome || v.input_ended) v.exited a.0 in
    (b.1, (or_parts (is_some v.outcome) v.input_ended b.0).1)

waiting_line : (bytes : List ℕ) → waiting (with_lf bytes) ≡ with_lf bytes ∷ []
waiting_line [] = refl
waiting_line (b ∷ bytes) = refl

module _ (c k limit : ℕ) (rest : List ℕ) (S : List Item) (is : rest ≡ open_line (child_out S k)) (short : has_long_line limit (child_out S k) ≡ false) where
  out_more : (d : ℕ) (bytes : List ℕ) → (k == d) ≡ true → child_out (S ++ In (ChildBytes d bytes) ∷ []) k ≡ child_out S k ++ bytes
  out_more d bytes same = child_out-push S (In (ChildBytes d bytes)) k ∙ ap (λ b. child_out S k ++ (if b then bytes else [])) same

  out_other : (d : ℕ) (bytes : List ℕ) → (k == d) ≡ false → child_out (S ++ In (ChildBytes d bytes) ∷ []) k ≡ child_out S k
  out_other d bytes other = child_out-push S (In (ChildBytes d bytes)) k ∙ (ap (λ b. child_out S k ++ (if b then bytes else [])) other ∙ append-nil _)

  long_more : (bytes : List ℕ) → has_long_line limit (child_out S k ++ bytes) ≡ has_long_line limit (rest ++ bytes)
  long_more bytes = long_joined limit (child_out S k) bytes short ∙ ap (λ r. has_long_line limit (r ++ bytes)) (sym is)

  piece_long : (d : ℕ) (bytes : List ℕ) → (k == d && has_long_run limit (child_out (S ++ In (ChildBytes d bytes) ∷ []) k)) ≡ (k == d && has_long_line limit (rest ++ bytes))
  piece_long d bytes = elim (cases_Bool (k == d)) [
    | inl same ↦
        ap (λ o. k == d && has_long_run limit o) (out_more d bytes same)
        ∙ ap (λ b. k == d && b) (sym (same_test limit (child_out S k ++ bytes)) ∙ long_more bytes)
    | inr other ↦ rw other refl
  ]

  long_is : (limits : Limits) (v : RunView) → limit ≡ limits.ws_text → (ev : Event)
      → (is_long_text limits c (In ev) || makes_long_line limits k S (In ev)) ≡ too_long (at_rest c k limits.ws_text rest false) ev
  long_is limits v same (WsText d bytes) = or_false _
  long_is limits v same (ChildBytes d bytes) =
      subst (λ n. (k == d && has_long_run n (child_out (S ++ In (ChildBytes d bytes) ∷ []) k)) ≡ (k == d && has_long_line n (rest ++ bytes))) same (piece_long d bytes)
  long_is limits v same ev = refl

-- what an event brings for the input
record Line (c k limit : ℕ) (L : List Item) (ev : Event) (line : List ℕ) : Type 0 where
  texts : List (List ℕ)
  taken : texts_taken c k limit (L ++ In ev ∷ []) ≡ texts_taken c k limit L ++ texts
  line_is : line ≡ input texts
  waits : waiting line ≡ map with_lf texts

no_line : (c k limit : ℕ) (L : List Item) (ev : Event) → texts_taken c k limit (L ++ In ev ∷ []) ≡ texts_taken c k limit L → Line c k limit L ev []
no_line c k limit L ev same = record { texts = []; taken = same ∙ sym (append-nil _); line_is = refl; waits = refl }

module _ (c k limit : ℕ) (rest : List ℕ) (v : RunView) (L : List Item) (input_open : list_any (ends_input k) L ≡ not (takes_input v)) where
  text_taken : (d : ℕ) (bytes : List ℕ) → (c == d) ≡ true → takes_input v ≡ true
      → texts_taken c k limit (L ++ In (WsText d bytes) ∷ []) ≡ texts_taken c k limit L ++ (if is_short limit bytes then bytes ∷ [] else [])
  text_taken d bytes same takes =
      taken_more c k limit L (In (WsText d bytes)) (input_open ∙ ap not takes) refl
      ∙ ap (λ b. texts_taken c k limit L ++ filter (is_short limit) (if b then bytes ∷ [] else [])) same

  line : (ev : Event) → Line c k limit L ev (line_of (at_rest c k limit rest false) v ev)
  line (WsText d bytes) = elim (cases_Bool (c == d)) [
    | inr other ↦
        subst (Line c k limit L (WsText d bytes)) (sym (ap (λ b. kept b (text_line limit (takes_input v) bytes)) other))
        (no_line c k limit L (WsText d bytes) (taken_quiet c k limit L (In (WsText d bytes)) (rw other refl)))
    | inl same ↦ elim (cases_Bool (takes_input v)) [
      | inr closed ↦
          subst (Line c k limit L (WsText d bytes))
          (sym (ap (λ b. kept (c == d) (kept b (with_lf bytes))) (ap (λ b. not (nat_lt limit (length bytes)) && b) closed ∙ and_false _) ∙ kept_nil _))
          (no_line c k limit L (WsText d bytes) (taken_past c k limit L (In (WsText d bytes)) (input_open ∙ ap not closed)))
      | inl takes ↦ elim (cases_Bool (nat_lt limit (length bytes))) [
        | inl long ↦
            subst (Line c k limit L (WsText d bytes)) (sym (ap (λ b. kept (c == d) (kept (not b && takes_input v) (with_lf bytes))) long ∙ kept_nil _))
            (no_line c k limit L (WsText d bytes)
            (text_taken d bytes same takes ∙ (ap (λ b. texts_taken c k limit L ++ (if not b then bytes ∷ [] else [])) long ∙ append-nil _)))
        | inr short ↦
            let whole : line_of (at_rest c k limit rest false) v (WsText d bytes) ≡ with_lf bytes = rw (same, takes, short) refl in
            record {
              texts = bytes ∷ [];
              taken = text_taken d bytes same takes ∙ ap (λ b. texts_taken c k limit L ++ (if not b then bytes ∷ [] else [])) short;
              line_is = whole ∙ sym (append-nil (with_lf bytes));
              waits = ap waiting whole ∙ waiting_line bytes;
            }
      ]
    ]
  ]
  line ev = no_line c k limit L ev (taken_quiet c k limit L (In ev) refl)

-- the code of the close frame
code_is : (c k : ℕ) (ev : Event) → codes (code_of c k ev) ≡ code_by c k (In ev)
code_is c k (ChildEof d) = elim (k == d) as (λ b. codes (when_named b 1000) ≡ (if b then 1000 ∷ [] else [])) [ true ↦ refl | false ↦ refl ]
code_is c k (WsBinary d) = elim (c == d) as (λ b. codes (when_named b 1003) ≡ (if b then 1003 ∷ [] else [])) [ true ↦ refl | false ↦ refl ]
code_is c k (WsText d bytes) = elim (c == d) as (λ b. codes (when_named b 1009) ≡ (if b then 1009 ∷ [] else [])) [ true ↦ refl | false ↦ refl ]
code_is c k (ChildBytes d bytes) = elim (k == d) as (λ b. codes (when_named b 1011) ≡ (if b || false || false || false then 1011 ∷ [] else [])) [ true ↦ refl | false ↦ refl ]
code_is c k (ChildBroken d) = elim (k == d) as (λ b. codes (when_named b 1011) ≡ (if b || false || false then 1011 ∷ [] else [])) [ true ↦ refl | false ↦ refl ]
code_is c k (StartFailed d) = elim (k == d) as (λ b. codes (when_named b 1011) ≡ (if b || false then 1011 ∷ [] else [])) [ true ↦ refl | false ↦ refl ]
code_is c k (StartFull d seen) = elim (k == d) as (λ b. codes (when_named b 1011) ≡ (if b then 1011 ∷ [] else [])) [ true ↦ refl | false ↦ refl ]
code_is c k ev = refl

module _ (early : Bool) (c : ℕ) (limits : Limits) (rest : List ℕ) (v : RunView) (L : List Item) (ev : Event)
    (s : StandsFor early c limits (at_rest c v.number limits.ws_text rest false) v L) (m : MayHear c (at_rest c v.number limits.ws_text rest false) v L ev) where
  unshut : shut L c ≡ false
  unshut = contra (shut L c) false s.talk.shut_over refl

  undone : (is_some v.outcome || v.hung_up || v.killed) ≡ false
  undone = contra (is_some v.outcome || v.hung_up || v.killed) false s.talk.done_over refl

  free : v.outcome ≡ None
  free = none_of v.outcome (or_parts (is_some v.outcome) v.hung_up (or_parts (is_some v.outcome || v.hung_up) v.killed undone).0).0

  unhung : v.hung_up ≡ false
  unhung = (or_parts (is_some v.outcome) v.hung_up (or_parts (is_some v.outcome || v.hung_up) v.killed undone).0).1

  alive : v.killed ≡ false
  alive = (or_parts (is_some v.outcome || v.hung_up) v.killed undone).1

  going : is_some (first_front (ends_talk (run_of c limits v)) L) ≡ false
  going = sym s.talk.over

  no_unfed : v.unfed ≡ []
  no_unfed = unfed_none v s.talk.due m.fed

  abbrev note : Note
  note = note_of (at_rest c v.number limits.ws_text rest false) v ev

  refused_is : too_long (at_rest c v.number limits.ws_text rest false) ev ≡ (not (shut (since (is_start v.number) L) c) && (is_long_text limits c (In ev) || makes_long_line limits v.number (since (is_start v.number) L) (In ev)))
  refused_is =
      sym (ap (λ b. not b && (is_long_text limits c (In ev) || makes_long_line limits v.number (since (is_start v.number) L) (In ev))) (s.talk.shut_since ∙ unshut)
      ∙ long_is c v.number limits.ws_text rest (since (is_start v.number) L) (s.talk.rest refl ∙ ap open_line (sym s.talk.out_since))
      (ap (has_long_line limits.ws_text) s.talk.out_since ∙ s.talk.short refl) limits v refl ev)

  counts : Counts (setting c v.number limits) v note L (In ev)
  counts = record {
    left = λ w. absurd (true≢false (sym s.talk.kind ∙ w));
    within = λ w. absurd (true≢false (sym s.talk.kind ∙ w));
    time = λ w. absurd (true≢false (sym s.talk.kind ∙ w));
    whole = λ w. absurd (true≢false (sym s.talk.kind ∙ w));
    talk = λ w. refl;
    refused = λ w. refused_is;
  }

  ends_is : ends_talk (run_of c limits v) L (In ev) ≡ ends (at_rest c v.number limits.ws_text rest false) v ev
  ends_is =
      ap (λ b. b || is_ws_closed c (In ev))
      (row_is (setting c v.number limits) v note L (In ev) counts s.run.begun ∙ ap (λ o. is_some (or_else o (verdict c v note (In ev)))) (sym free))

  -- ---- its input

  input_is : list_any (ends_input v.number) L ≡ not (takes_input v)
  input_is =
      ends_input_is v.number L
      ∙ (rw (← s.run.input_ended, ← s.run.exited, ← s.run.killed, alive, free, s.talk.whole) (both v.input_ended v.exited))
    where
      both : (a b : Bool) → (a || false || b) ≡ not (not (false || a || b || false))
      both true b = refl
      both false true = refl
      both false false = refl

  its_line : Line c v.number limits.ws_text L ev (line_of (at_rest c v.number limits.ws_text rest false) v ev)
  its_line = line c v.number limits.ws_text rest v L input_is ev

  offers : Offers (setting c v.number limits) v L note (In ev)
  offers = record {
    refused = λ w. refused_is;
    body =
        ap input its_line.taken
        ∙ (flat_map-append with_lf (texts_taken c v.number limits.ws_text L) its_line.texts
        ∙ ap (λ l. input (texts_taken c v.number limits.ws_text L) ++ l) (sym its_line.line_is));
    whole = λ w. refl;
    done = λ w e. absurd (true≢false (sym s.talk.kind ∙ w));
    talk = λ w. refl;
  }

  -- a line that is offered decides nothing
  line_decides : (x : Event) → cleared (is_some (verdict c v (note_of (at_rest c v.number limits.ws_text rest false) v x) (In x))) (line_of (at_rest c v.number limits.ws_text rest false) v x)
      ≡ line_of (at_rest c v.number limits.ws_text rest false) v x
  line_decides (WsText d bytes) = elim (cases_Bool (nat_lt limits.ws_text (length bytes))) [
    | inl long ↦
        let none : line_of (at_rest c v.number limits.ws_text rest false) v (WsText d bytes) ≡ [] = ap (λ b. kept (c == d) (kept (not b && takes_input v) (with_lf bytes))) long ∙ kept_nil _ in
        ap (cleared _) none ∙ (cleared_nil _ ∙ sym none)
    | inr short ↦ rw (short, and_false (c == d), and_false (is_websocket v.kind)) refl
  ]
  line_decides x = cleared_nil (is_some (verdict c v (note_of (at_rest c v.number limits.ws_text rest false) v x) (In x)))

  unfed_is : (run_heard (at_rest c v.number limits.ws_text rest false) v ev).unfed ≡ line_of (at_rest c v.number limits.ws_text rest false) v ev
  unfed_is =
      ap (λ u. cleared (is_some (verdict c v note (In ev))) (more_if note.more (not (is_some v.outcome)) u)) no_unfed
      ∙ (ap (λ o. cleared (is_some (verdict c v note (In ev))) (more_if note.more (not (is_some o)) [])) free
      ∙ (ap (cleared (is_some (verdict c v note (In ev)))) (more_if-counts note.more []) ∙ line_decides ev))

  -- .. and is due to be fed
  line_due : (x : Event) → (is_ws_text c (In x) ≡ true → wants_text v ≡ true)
      → is_filled (run_heard (at_rest c v.number limits.ws_text rest false) v x).unfed ≡ true
      → is_filled (line_of (at_rest c v.number limits.ws_text rest false) v x) ≡ true
      → is_feed_due (run_heard (at_rest c v.number limits.ws_text rest false) v x) ≡ true
  line_due (WsText d bytes) wanted filled e = elim (cases_Bool (c == d)) [
    | inr other ↦ absurd (false≢true (sym (ap (λ b. is_filled (kept b (text_line limits.ws_text (takes_input v) bytes))) other) ∙ e))
    | inl same ↦ elim (cases_Bool (nat_lt limits.ws_text (length bytes))) [
      | inl long ↦ absurd (false≢true (sym (ap (λ b. is_filled (kept (c == d) (kept (not b && takes_input v) (with_lf bytes)))) long ∙ ap is_filled (kept_nil (c == d))) ∙ e))
      | inr short ↦ elim (cases_Bool (takes_input v)) [
        | inr closed ↦
            let none : line_of (at_rest c v.number limits.ws_text rest false) v (WsText d bytes) ≡ [] =
            ap (λ b. kept (c == d) (kept b (with_lf bytes))) (ap (λ b. not (nat_lt limits.ws_text (length bytes)) && b) closed ∙ and_false _) ∙ kept_nil _ in
            absurd (false≢true (sym (ap is_filled none) ∙ e))
        | inl takes ↦
            let p = and_parts v.started (wants_more v) (wanted same) in
            let q = takes_parts v takes in
            let more : wants_more v ≡ (v.untaken == 0) = rw (q.1, q.0, and_false (is_websocket v.kind), or_false (v.untaken == 0)) refl in
            let undecided : or_else v.outcome (verdict c v (note_of (at_rest c v.number limits.ws_text rest false) v (WsText d bytes)) (In (WsText d bytes))) ≡ None =
            rw (free, short, and_false (c == d), and_false (is_websocket v.kind)) refl in
            feed_due_from (run_heard (at_rest c v.number limits.ws_text rest false) v (WsText d bytes)) p.0 undecided q.0 q.1 filled (sym more ∙ p.1)
      ]
    ]
  ]
  line_due x wanted filled e = absurd (false≢true e)

  -- .. and the talk goes on
  line_ends : (x : Event) → ends (at_rest c v.number limits.ws_text rest false) v x ≡ true → line_of (at_rest c v.number limits.ws_text rest false) v x ≡ []
  line_ends (WsText d bytes) e = elim (cases_Bool (nat_lt limits.ws_text (length bytes))) [
    | inl long ↦ ap (λ b. kept (c == d) (kept (not b && takes_input v) (with_lf bytes))) long ∙ kept_nil _
    | inr short ↦
        let goes_on : ends (at_rest c v.number limits.ws_text rest false) v (WsText d bytes) ≡ false = rw (free, short, and_false (c == d), and_false (is_websocket v.kind)) refl in
        absurd (false≢true (sym goes_on ∙ e))
  ]
  line_ends x e = refl

  -- ---- what it says

  short : has_long_line limits.ws_text (child_out L v.number) ≡ false
  short = s.talk.short refl

  rest_is : rest ≡ open_line (child_out L v.number)
  rest_is = s.talk.rest refl

  base : messages_by limits.ws_text v.number L ≡ lines_within limits.ws_text (child_out L v.number) ++ []
  base = ap (λ b. lines_within limits.ws_text (child_out L v.number) ++ (if b then last_within limits.ws_text (child_out L v.number) else [])) (s.talk.eof refl)

  messages_at : (x : Event) → messages_by limits.ws_text v.number (L ++ In x ∷ []) ≡ lines_within limits.ws_text (child_out L v.number) ++ messages (at_rest c v.number limits.ws_text rest false) x
  messages_at (ChildBytes d bytes) = elim (cases_Bool (v.number == d)) [
    | inl same ↦
        let eof : output_eof (L ++ In (ChildBytes d bytes) ∷ []) v.number ≡ false = output_eof-push L (In (ChildBytes d bytes)) v.number ∙ ap (λ b. b || false) (s.talk.eof refl) in
        ap (λ o. lines_within limits.ws_text o ++ (if output_eof (L ++ In (ChildBytes d bytes) ∷ []) v.number then last_within limits.ws_text o else []))
        (out_more c v.number limits.ws_text rest L rest_is short d bytes same)
        ∙ (ap (λ b. lines_within limits.ws_text (child_out L v.number ++ bytes) ++ (if b then last_within limits.ws_text (child_out L v.number ++ bytes) else [])) eof
        ∙ (append-nil _
        ∙ (within_joined limits.ws_text (child_out L v.number) bytes short
        ∙ (ap (λ r. lines_within limits.ws_text (child_out L v.number) ++ lines_within limits.ws_text (r ++ bytes)) (sym rest_is)
        ∙ ap (λ b. lines_within limits.ws_text (child_out L v.number) ++ (if b then lines_within limits.ws_text (rest ++ bytes) else [])) (sym same)))))
    | inr other ↦
        messages_quiet limits.ws_text v.number L (In (ChildBytes d bytes)) (rw other refl) refl
        ∙ (base ∙ ap (λ b. lines_within limits.ws_text (child_out L v.number) ++ (if b then lines_within limits.ws_text (rest ++ bytes) else [])) (sym other))
  ]
  messages_at (ChildEof d) = elim (cases_Bool (v.number == d)) [
    | inl same ↦
        let eof : output_eof (L ++ In (ChildEof d) ∷ []) v.number ≡ true = output_eof-push L (In (ChildEof d)) v.number ∙ (ap (λ b. b || v.number == d) (s.talk.eof refl) ∙ same) in
        let out : child_out (L ++ In (ChildEof d) ∷ []) v.number ≡ child_out L v.number = child_out-push L (In (ChildEof d)) v.number ∙ append-nil _ in
        ap (λ o. lines_within limits.ws_text o ++ (if output_eof (L ++ In (ChildEof d) ∷ []) v.number then last_within limits.ws_text o else [])) out
        ∙ (ap (λ b. lines_within limits.ws_text (child_out L v.number) ++ (if b then last_within limits.ws_text (child_out L v.number) else [])) eof
        ∙ (ap (λ l. lines_within limits.ws_text (child_out L v.number) ++ l) (sym (last_of_rest limits.ws_text (child_out L v.number) short) ∙ ap (last_within limits.ws_text) (sym rest_is))
        ∙ ap (λ b. lines_within limits.ws_text (child_out L v.number) ++ (if b then last_within limits.ws_text rest else [])) (sym same)))
    | inr other ↦
        messages_quiet limits.ws_text v.number L (In (ChildEof d)) refl other
        ∙ (base ∙ ap (λ b. lines_within limits.ws_text (child_out L v.number) ++ (if b then last_within limits.ws_text rest else [])) (sym other))
  ]
  messages_at x = messages_quiet limits.ws_text v.number L (In x) refl refl ∙ base

  still_unshut : shut (L ++ In ev ∷ []) c ≡ false
  still_unshut = shut-push L (In ev) c ∙ ap (λ b. b || false) unshut

  said_is : said L c ≡ lines_within limits.ws_text (child_out L v.number)
  said_is = sym (append-nil _) ∙ (s.talk.said ∙ (texts_open (run_of c limits v) L unshut ∙ (base ∙ append-nil _)))

  said_now : said (L ++ In ev ∷ []) c ++ messages (at_rest c v.number limits.ws_text rest false) ev ≡ texts_due (run_of c limits v) (L ++ In ev ∷ [])
  said_now =
      ap (λ l. l ++ messages (at_rest c v.number limits.ws_text rest false) ev) (said-push L (In ev) c ∙ (append-nil _ ∙ said_is))
      ∙ (sym (messages_at ev) ∙ sym (texts_open (run_of c limits v) (L ++ In ev ∷ []) still_unshut))

  -- ---- what it feeds

  fed_is : pieces_fed L v.number ≡ map with_lf (texts_taken c v.number limits.ws_text L)
  fed_is = sym (append-nil _) ∙ (ap (λ u. pieces_fed L v.number ++ waiting u) (sym no_unfed) ∙ s.talk.fed)

  fed_now : pieces_fed (L ++ In ev ∷ []) v.number ++ waiting (run_heard (at_rest c v.number limits.ws_text rest false) v ev).unfed ≡ input_due (run_of c limits v) (L ++ In ev ∷ [])
  fed_now =
      ap (λ l. l ++ waiting (run_heard (at_rest c v.number limits.ws_text rest false) v ev).unfed) (pieces_fed-push L (In ev) v.number ∙ (append-nil _ ∙ fed_is))
      ∙ (ap (λ l. map with_lf (texts_taken c v.number limits.ws_text L) ++ l) (ap waiting unfed_is ∙ its_line.waits)
      ∙ (sym (map-append with_lf (texts_taken c v.number limits.ws_text L) its_line.texts) ∙ ap (map with_lf) (sym its_line.taken)))

  -- ---- how it ends

  codes_now : codes_sent (L ++ In ev ∷ []) c ≡ []
  codes_now = codes_sent-push L (In ev) c ∙ (append-nil _ ∙ (sym (append-nil _) ∙ (s.talk.code ∙ code_none (run_of c limits v) L (In ev) going)))

  code_now : codes_sent (L ++ In ev ∷ []) c ++ codes (code_if (ends (at_rest c v.number limits.ws_text rest false) v ev) (code_of c v.number ev)) ≡ code_due (run_of c limits v) (L ++ In ev ∷ [])
  code_now =
      ap (λ l. l ++ codes (code_if (ends (at_rest c v.number limits.ws_text rest false) v ev) (code_of c v.number ev))) codes_now
      ∙ elim (cases_Bool (ends (at_rest c v.number limits.ws_text rest false) v ev)) [
        | inl over ↦
            ap (λ b. codes (code_if b (code_of c v.number ev))) over
            ∙ (code_is c v.number ev ∙ sym (code_new (run_of c limits v) L (In ev) going (ends_is ∙ over)))
        | inr on ↦
            ap (λ b. codes (code_if b (code_of c v.number ev))) on
            ∙ sym (code_open (run_of c limits v) L (In ev) going (ends_is ∙ on))
      ]

  eof_ends : (x : Event) → is_child_eof v.number (In x) ≡ true → ends (at_rest c v.number limits.ws_text rest false) v x ≡ true
  eof_ends (ChildEof d) e = rw (free, e) refl
  eof_ends x e = absurd (false≢true e)

  eof_now : ends (at_rest c v.number limits.ws_text rest false) v ev ≡ false → output_eof (L ++ In ev ∷ []) v.number ≡ false
  eof_now on =
      output_eof-push L (In ev) v.number
      ∙ (ap (λ b. b || is_child_eof v.number (In ev)) (s.talk.eof refl)
      ∙ contra (is_child_eof v.number (In ev)) (ends (at_rest c v.number limits.ws_text rest false) v ev) (eof_ends ev) on)

  long_ends : (d : ℕ) (bytes : List ℕ) → (v.number == d) ≡ true → has_long_line limits.ws_text (rest ++ bytes) ≡ true
      → ends (at_rest c v.number limits.ws_text rest false) v (ChildBytes d bytes) ≡ true
  long_ends d bytes same long = rw (free, s.talk.kind, same, long) refl

  piece_short : (d : ℕ) (bytes : List ℕ) → (v.number == d) ≡ true → ends (at_rest c v.number limits.ws_text rest false) v (ChildBytes d bytes) ≡ false
      → has_long_line limits.ws_text (rest ++ bytes) ≡ false
  piece_short d bytes same on = contra (has_long_line limits.ws_text (rest ++ bytes)) _ (long_ends d bytes same) on

  out_quiet : (x : Event) → output_heard v.number (In x) ≡ [] → child_out (L ++ In x ∷ []) v.number ≡ child_out L v.number
  out_quiet x none = child_out-push L (In x) v.number ∙ (ap (λ l. child_out L v.number ++ l) none ∙ append-nil _)

  short_now : (x : Event) → ends (at_rest c v.number limits.ws_text rest false) v x ≡ false → has_long_line limits.ws_text (child_out (L ++ In x ∷ []) v.number) ≡ false
  short_now (ChildBytes d bytes) on = elim (cases_Bool (v.number == d)) [
    | inl same ↦
        ap (has_long_line limits.ws_text) (out_more c v.number limits.ws_text rest L rest_is short d bytes same)
        ∙ (long_more c v.number limits.ws_text rest L rest_is short bytes ∙ piece_short d bytes same on)
    | inr other ↦ ap (has_long_line limits.ws_text) (out_quiet (ChildBytes d bytes) (rw other refl)) ∙ short
  ]
  short_now x on = ap (has_long_line limits.ws_text) (out_quiet x refl) ∙ short

  rest_after_is : (x : Event) → ends (at_rest c v.number limits.ws_text rest false) v x ≡ false
      → rest_after (at_rest c v.number limits.ws_text rest false) x ≡ open_line (child_out (L ++ In x ∷ []) v.number)
  rest_after_is (ChildBytes d bytes) on = elim (cases_Bool (v.number == d)) [
    | inl same ↦
        ap (λ b. if b then rest_of limits.ws_text (rest ++ bytes) else rest) same
        ∙ (ap (λ b. cleared b (open_line (rest ++ bytes))) (piece_short d bytes same on)
        ∙ (ap (λ r. open_line (r ++ bytes)) rest_is
        ∙ (sym ((joins (child_out L v.number) bytes).behind)
        ∙ sym (ap open_line (out_more c v.number limits.ws_text rest L rest_is short d bytes same)))))
    | inr other ↦
        ap (λ b. if b then rest_of limits.ws_text (rest ++ bytes) else rest) other
        ∙ (rest_is ∙ sym (ap open_line (out_quiet (ChildBytes d bytes) (rw other refl))))
  ]
  rest_after_is (ChildEof d) on = elim (cases_Bool (v.number == d)) [
    | inl same ↦ absurd (false≢true (sym on ∙ eof_ends (ChildEof d) same))
    | inr other ↦ ap (λ b. if b then [] else rest) other ∙ (rest_is ∙ sym (ap open_line (out_quiet (ChildEof d) refl)))
  ]
  rest_after_is x on = rest_is ∙ sym (ap open_line (out_quiet x refl))

  done_is : (is_some (run_heard (at_rest c v.number limits.ws_text rest false) v ev).outcome
      || (run_heard (at_rest c v.number limits.ws_text rest false) v ev).hung_up
      || (run_heard (at_rest c v.number limits.ws_text rest false) v ev).killed) ≡ ends (at_rest c v.number limits.ws_text rest false) v ev
  done_is =
      ap (λ k. is_some (or_else v.outcome (verdict c v note (In ev))) || (is_websocket v.kind && is_ws_closed c (In ev) || v.hung_up) || k) alive
      ∙ (ap (λ h. is_some (or_else v.outcome (verdict c v note (In ev))) || (is_websocket v.kind && is_ws_closed c (In ev) || h) || false) unhung
      ∙ (ap (λ w. is_some (or_else v.outcome (verdict c v note (In ev))) || (w && is_ws_closed c (In ev) || false) || false) s.talk.kind
      ∙ shape (is_some (or_else v.outcome (verdict c v note (In ev)))) (is_ws_closed c (In ev))))
    where
      shape : (a b : Bool) → (a || (b || false) || false) ≡ (a || b)
      shape true b = refl
      shape false true = refl
      shape false false = refl

  pub going_heard : StandsFor early c limits (heard (at_rest c v.number limits.ws_text rest false) v ev) (run_heard (at_rest c v.number limits.ws_text rest false) v ev) (L ++ In ev ∷ [])
  going_heard = record {
    run = Knows-noted early (setting c v.number limits) v L note (In ev) s.run (run-admits early (setting c v.number limits) v L note ev s.run m.fits offers);
    talk = record {
      conn = refl;
      child = refl;
      limit = refl;
      kind = s.talk.kind;
      whole = ap (λ b. not (is_some (verdict c v note (In ev))) && b) s.talk.whole ∙ and_false _;
      shut_since = shut_since-push v.number c L (In ev) s.run.begun s.talk.shut_since;
      out_since = out_since-push v.number L (In ev) s.run.begun s.talk.out_since;
      over = is_end (run_of c limits v) L (In ev) _ going ends_is;
      shut_over = λ e. absurd (false≢true (sym still_unshut ∙ e));
      done_over = λ e. sym done_is ∙ e;
      eof = eof_now;
      short = short_now ev;
      rest = λ on. ap (λ b. cleared b (rest_after (at_rest c v.number limits.ws_text rest false) ev)) on ∙ rest_after_is ev on;
      said = said_now;
      fed = fed_now;
      due = λ f. line_due ev m.wanted f (sym (ap is_filled unfed_is) ∙ f);
      spent = λ over. unfed_is ∙ line_ends ev over;
      code = code_now;
    };
  }

-- ---- both

abbrev Hearing : Bool → ℕ → Limits → RunView → List Item → Event → View → Type 0
Hearing early c limits v L ev t = StandsFor early c limits t v L → MayHear c t v L ev → StandsFor early c limits (heard t v ev) (run_heard t v ev) (L ++ In ev ∷ [])

by_over : (early : Bool) (c : ℕ) (limits : Limits) (rest : List ℕ) (over : Bool) (v : RunView) (L : List Item) (ev : Event) → Hearing early c limits v L ev (at_rest c v.number limits.ws_text rest over)
by_over early c limits rest true v L ev = over_heard early c limits rest v L ev
by_over early c limits rest false v L ev = going_heard early c limits rest v L ev

pub talk_is : (c k limit : ℕ) (t : View) → t.conn ≡ c → t.child ≡ k → t.limit ≡ limit → t.texts ≡ [] → t.code ≡ None → t ≡ at_rest c k limit t.rest t.over
talk_is c k limit t conn child limit_is texts code =
    ap (λ x. record { conn = x; child = t.child; limit = t.limit; rest = t.rest; texts = t.texts; code = t.code; over = t.over }) conn
    ∙ (ap (λ x. record { conn = c; child = x; limit = t.limit; rest = t.rest; texts = t.texts; code = t.code; over = t.over }) child
    ∙ (ap (λ x. record { conn = c; child = k; limit = x; rest = t.rest; texts = t.texts; code = t.code; over = t.over }) limit_is
    ∙ (ap (λ x. record { conn = c; child = k; limit = limit; rest = t.rest; texts = x; code = t.code; over = t.over }) texts
    ∙ ap (λ x. record { conn = c; child = k; limit = limit; rest = t.rest; texts = []; code = x; over = t.over }) code)))

pub events_are_known : EventsAreKnown
events_are_known early c limits t v L ev s m =
    subst (Hearing early c limits v L ev) (sym (talk_is c v.number limits.ws_text t s.talk.conn s.talk.child s.talk.limit m.texts m.code))
    (by_over early c limits t.rest t.over v L ev) s m
