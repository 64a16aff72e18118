-- A talk whose child's Start is given knows the list.
use Rattle.std.proofs.Common.{◌≡◌, ℕ, List, [], ◌∷◌, ◌++◌, Bool, true, false, ◌||◌, refl, sym, ◌∙◌, ap, None, map}
use Rattle.std.specs.Prelude.{if◌then◌else◌, is_some, filter}
use Rattle.std.specs.List.{list_any, flat_map}
use Rattle.std.proofs.lemmas.Bool.{or_parts, or_left, or_right, false≢true}
use Rattle.host_base.specs.declared.launch.Launch.{Launch}
use Rattle.host_base.specs.declared.limits.Limits.{Limits}
use Rattle.host_base.specs.declared.site.ScriptKind.TheVariants.{WebSocket}
use Rattle.host_trace.specs.declared.items.Act.TheVariants.{Start, Feed, Says, CloseWs}
use Rattle.host_trace.specs.declared.items.Event.TheVariants.{WsText}
use Rattle.host_trace.specs.declared.items.Item.{Item}
use Rattle.host_trace.specs.declared.items.Item.TheVariants.{In, Out}
use Rattle.host_trace.specs.First.{since, first_front_from, first_front}
use Rattle.host_trace.specs.Kinds.{is_start, is_child_eof, is_says, is_close_ws, is_ws_text, is_ws_closed, names_child, texts_said, texts_heard}
use Rattle.host_trace.specs.Projections.{child_out, output_eof, shut, stopped}
use Rattle.host_trace.proofs.FirstLaws.{first_front-push, list_any-push}
use Rattle.host_trace.proofs.ProjectionLaws.{child_out-push, output_eof-push, said-push, shut-push}
use Rattle.head_lines.specs.Lines.{with_lf}
use Rattle.line_messages.specs.Lines.{has_long_line, input, lines_within, last_within, open_line}
use Rattle.line_messages.proofs.JoinLemmas.{behind_alone, within_alone}
use Rattle.trace_child.specs.Words.{until}
use Rattle.trace_model.specs.Talk.{texts_due, piece_fed, close_code, ends_input, ends_talk, is_short}
use Rattle.child_core.specs.View.{begun as run_begun}
use Rattle.child_core.proofs.OutputLaws.{no_output_in}
use Rattle.child_core.proofs.StartLaws.{Knows-start}
use Rattle.child_core.proofs.WordLaws.{contra, none, since_first, start_names, eof_names}
use Rattle.talk_core.specs.Setting.{setting, texts_taken}
use Rattle.talk_core.specs.Knows.{run_of}
use Rattle.talk_core.specs.Laws.{TalksBegin, is_of_talk}
use Rattle.talk_core.proofs.LineLaws.{none_long, nothing}
use Rattle.talk_core.proofs.ItemLaws.{texts_out, texts_open, taken_quiet, pieces_fed-push, codes_sent-push, code_by_front}

-- where no item passes a test, none passes a narrower one
any_less : (test wide : Item → Bool) → ((y : Item) → test y ≡ true → wide y ≡ true) → (L : List Item) → list_any wide L ≡ false → list_any test L ≡ false
any_less test wide f [] e = refl
any_less test wide f (x ∷ L) e =
    let p = or_parts (wide x) (list_any wide L) e in
    rw (contra (test x) (wide x) (f x) p.0) (any_less test wide f L p.1)

-- .. and what such items carry is nothing
flat_none : {A : Type 0} (f : Item → List A) (test : Item → Bool) → ((y : Item) → test y ≡ false → f y ≡ []) → (L : List Item) → list_any test L ≡ false → flat_map f L ≡ []
flat_none f test empty [] e = refl
flat_none f test empty (x ∷ L) e =
    let p = or_parts (test x) (list_any test L) e in
    rw (empty x p.0) (flat_none f test empty L p.1)

any_until : (test cut : Item → Bool) (L : List Item) → list_any test L ≡ false → list_any test (until cut L) ≡ false
any_until test cut [] e = refl
any_until test cut (x ∷ L) e =
    let p = or_parts (test x) (list_any test L) e in
    elim (cut x) as (λ b. list_any test (if b then [] else x ∷ until cut L) ≡ false) [
      | true ↦ refl
      | false ↦ rw p.0 (any_until test cut L p.1)
    ]

no_said : (c : ℕ) (x : Item) → is_says c x ≡ false → texts_said c x ≡ []
no_said c (Out (Says d texts)) e = rw e refl
no_said c x e = refl

no_code : (c : ℕ) (x : Item) → is_close_ws c x ≡ false → close_code c x ≡ []
no_code c (Out (CloseWs d code)) e = rw e refl
no_code c x e = refl

no_heard : (c : ℕ) (x : Item) → is_ws_text c x ≡ false → texts_heard c x ≡ []
no_heard c (In (WsText d bytes)) e = rw e refl
no_heard c x e = refl

no_piece : (k : ℕ) (x : Item) → names_child k x ≡ false → piece_fed k x ≡ []
no_piece k (Out (Feed d bytes)) e = rw e refl
no_piece k x e = refl

module _ (c k : ℕ) (limits : Limits) (d j hop : ℕ) (launch : Launch) (L : List Item) (fresh : list_any (names_child k) L ≡ false)
    (untalked : list_any (is_of_talk c) L ≡ false) (unshut : shut L c ≡ false) (going : stopped L ≡ false) where
  unclosed : list_any (is_ws_closed c) L ≡ false
  unclosed = any_less (is_ws_closed c) (is_of_talk c) (λ y e. or_right (is_says c y || is_close_ws c y || is_ws_text c y) (is_ws_closed c y) e) L untalked

  unheard : list_any (is_ws_text c) L ≡ false
  unheard = any_less (is_ws_text c) (is_of_talk c)
      (λ y e. or_left (is_says c y || is_close_ws c y || is_ws_text c y) (is_ws_closed c y) (or_right (is_says c y || is_close_ws c y) (is_ws_text c y) e)) L untalked

  unsent : list_any (is_close_ws c) L ≡ false
  unsent = any_less (is_close_ws c) (is_of_talk c)
      (λ y e. or_left (is_says c y || is_close_ws c y || is_ws_text c y) (is_ws_closed c y) (or_left (is_says c y || is_close_ws c y) (is_ws_text c y) (or_right (is_says c y) (is_close_ws c y) e)))
      L untalked

  unsaid : list_any (is_says c) L ≡ false
  unsaid = any_less (is_says c) (is_of_talk c)
      (λ y e. or_left (is_says c y || is_close_ws c y || is_ws_text c y) (is_ws_closed c y) (or_left (is_says c y || is_close_ws c y) (is_ws_text c y) (or_left (is_says c y) (is_close_ws c y) e)))
      L untalked

  unstarted : list_any (is_start k) L ≡ false
  unstarted = none (is_start k) k L (start_names k) fresh

  taken_none : texts_taken c k limits.ws_text (L ++ Out (Start k d j hop launch) ∷ []) ≡ []
  taken_none =
      taken_quiet c k limits.ws_text L (Out (Start k d j hop launch)) refl
      ∙ ap (filter (is_short limits.ws_text)) (flat_none (texts_heard c) (is_ws_text c) (no_heard c) (until (ends_input k) L) (any_until (is_ws_text c) (ends_input k) L unheard))

  since_none : since (is_start k) (L ++ Out (Start k d j hop launch) ∷ []) ≡ []
  since_none = since_first (is_start k) L (Out (Start k d j hop launch)) unstarted

  still_unshut : shut (L ++ Out (Start k d j hop launch) ∷ []) c ≡ false
  still_unshut = shut-push L (Out (Start k d j hop launch)) c ∙ ap (λ b. b || false) unshut

  out_none : child_out (L ++ Out (Start k d j hop launch) ∷ []) k ≡ []
  out_none = child_out-push L (Out (Start k d j hop launch)) k ∙ ap (λ l. l ++ []) (no_output_in k L fresh)

  eof_none : output_eof L k ≡ false
  eof_none = none (is_child_eof k) k L (eof_names k) fresh

  unended : (before rest : List Item) → list_any (is_start k) before ≡ false → list_any (is_start k) rest ≡ false → list_any (is_ws_closed c) rest ≡ false
      → first_front_from (ends_talk (run_of c limits (run_begun k WebSocket limits))) before rest ≡ None
  unended before [] b e f = refl
  unended before (x ∷ rest) b e f =
      let p = or_parts (is_start k x) (list_any (is_start k) rest) e in
      let q = or_parts (is_ws_closed c x) (list_any (is_ws_closed c) rest) f in
      rw (b, q.0) (unended (before ++ x ∷ []) rest (list_any-push (is_start k) before x ∙ rw (b, p.0) refl) p.1 q.1)

  end_none : first_front (ends_talk (run_of c limits (run_begun k WebSocket limits))) (L ++ Out (Start k d j hop launch) ∷ []) ≡ None
  end_none =
      first_front-push (ends_talk (run_of c limits (run_begun k WebSocket limits))) L (Out (Start k d j hop launch))
      ∙ rw (unended [] L refl unstarted unclosed, unstarted) refl

  due_none : texts_due (run_of c limits (run_begun k WebSocket limits)) (L ++ Out (Start k d j hop launch) ∷ []) ≡ []
  due_none =
      texts_out (run_of c limits (run_begun k WebSocket limits)) L (Start k d j hop launch)
      ∙ (texts_open (run_of c limits (run_begun k WebSocket limits)) L unshut
      ∙ (ap (λ o. lines_within limits.ws_text o ++ (if output_eof L k then last_within limits.ws_text o else [])) (no_output_in k L fresh)
      ∙ (ap (λ b. lines_within limits.ws_text [] ++ (if b then last_within limits.ws_text [] else [])) eof_none
      ∙ ap (λ l. l ++ []) (within_alone limits.ws_text [] nothing))))

pub talks_begin : TalksBegin
talks_begin c k limits d j hop launch L fresh untalked unshut going = record {
  run =
      Knows-start (setting c k limits) k WebSocket [] false d j hop launch L fresh (λ w. unclosed c k limits d j hop launch L fresh untalked unshut going) going
      (ap input (taken_none c k limits d j hop launch L fresh untalked unshut going)) (λ w. absurd (false≢true (sym w))) (λ w. refl);
  talk = record {
    conn = refl;
    child = refl;
    limit = refl;
    kind = refl;
    whole = refl;
    shut_since = ap (λ l. shut l c) (since_none c k limits d j hop launch L fresh untalked unshut going) ∙ sym (still_unshut c k limits d j hop launch L fresh untalked unshut going);
    out_since = ap (λ l. child_out l k) (since_none c k limits d j hop launch L fresh untalked unshut going) ∙ sym (out_none c k limits d j hop launch L fresh untalked unshut going);
    over = sym (ap is_some (end_none c k limits d j hop launch L fresh untalked unshut going));
    shut_over = λ e. absurd (false≢true (sym (still_unshut c k limits d j hop launch L fresh untalked unshut going) ∙ e));
    done_over = λ e. e;
    eof = λ e. output_eof-push L (Out (Start k d j hop launch)) k ∙ ap (λ b. b || false) (eof_none c k limits d j hop launch L fresh untalked unshut going);
    short = λ e. ap (has_long_line limits.ws_text) (out_none c k limits d j hop launch L fresh untalked unshut going) ∙ none_long limits.ws_text;
    rest = λ e. sym (ap open_line (out_none c k limits d j hop launch L fresh untalked unshut going) ∙ behind_alone [] nothing);
    said =
        ap (λ l. l ++ []) (said-push L (Out (Start k d j hop launch)) c ∙ ap (λ l. l ++ []) (flat_none (texts_said c) (is_says c) (no_said c) L (unsaid c k limits d j hop launch L fresh untalked unshut going)))
        ∙ sym (due_none c k limits d j hop launch L fresh untalked unshut going);
    fed =
        ap (λ l. l ++ []) (pieces_fed-push L (Out (Start k d j hop launch)) k ∙ ap (λ l. l ++ []) (flat_none (piece_fed k) (names_child k) (no_piece k) L fresh))
        ∙ sym (ap (map with_lf) (taken_none c k limits d j hop launch L fresh untalked unshut going));
    due = λ e. absurd (false≢true e);
    spent = λ e. refl;
    code =
        ap (λ l. l ++ []) (codes_sent-push L (Out (Start k d j hop launch)) c ∙ ap (λ l. l ++ []) (flat_none (close_code c) (is_close_ws c) (no_code c) L (unsent c k limits d j hop launch L fresh untalked unshut going)))
        ∙ sym (ap (code_by_front (run_of c limits (run_begun k WebSocket limits))) (end_none c k limits d j hop launch L fresh untalked unshut going));
  };
}
