-- A run whose Start is given knows the list that ends with its Start.
use Rattle.std.proofs.Common.{◌≡◌, ℕ, ◌+◌, List, [], ◌∷◌, ◌++◌, Bool, true, false, ◌&&◌, refl, sym, ◌∙◌, ap, arith, None, add-zero}
use Rattle.std.specs.Prelude.{is_some, count_by, option_and_then, option_map}
use Rattle.std.specs.List.{list_any, fold}
use Rattle.std.proofs.lemmas.Bool.{or_parts, eq-eqb, false≢true}
use Rattle.host_base.specs.declared.launch.Launch.{Launch}
use Rattle.host_base.specs.declared.site.ScriptKind.{ScriptKind}
use Rattle.host_trace.specs.declared.items.Act.TheVariants.{Start, Feed}
use Rattle.host_trace.specs.declared.items.Item.{Item}
use Rattle.host_trace.specs.declared.items.Item.TheVariants.{Out}
use Rattle.host_trace.specs.First.{since, first_front_from, last_of}
use Rattle.host_trace.specs.Kinds.{is_start, is_started, is_start_answer, is_exited, is_input_end, is_output_end, is_kill, is_want_child, is_child_answer, is_end_input, is_ws_closed, is_stop, names_child, count_took}
use Rattle.host_trace.specs.Projections.{child_in, stopped}
use Rattle.host_trace.specs.Account.{is_refusal}
use Rattle.host_trace.specs.Decider.{is_websocket}
use Rattle.host_trace.proofs.FirstLaws.{list_any-push, count_by-push}
use Rattle.host_trace.proofs.ProjectionLaws.{child_in-push, took_sum-push}
use Rattle.trace_child.specs.Words.{each_from}
use Rattle.trace_child.specs.Run.{Run}
use Rattle.trace_child.specs.Decided.{decides_run, decided_at, outcome_at, is_output_end_of}
use Rattle.trace_child.specs.Bodies.{is_fed_in_turn}
use Rattle.trace_child.proofs.WordLaws.{each-push}
use Rattle.child_core.specs.Laws.{just_begun}
use Rattle.child_core.specs.Setting.{Setting, run_in}
use Rattle.child_core.specs.Knows.{KnowsRun}
use Rattle.child_core.proofs.WordLaws.{none, none_count, since_first, start_names, started_names, start_answer_names, refusal_names, exited_names, input_names, output_names, kill_names, want_names, answer_names, end_input_names, no_input, no_took}
use Rattle.child_core.proofs.DecideLaws.{at_pushed}

any_first : (test : Item → Bool) (L : List Item) (x : Item) → list_any test L ≡ false → test x ≡ false → false ≡ list_any test (L ++ x ∷ [])
any_first test L x e f = sym (list_any-push test L x ∙ rw (e, f) refl)

-- nothing decides a run before its Start
pub undecided_before : (run : Run) (before L : List Item) → list_any (is_start run.child) before ≡ false → list_any (is_start run.child) L ≡ false → first_front_from (decides_run run) before L ≡ None
undecided_before run before [] b e = refl
undecided_before run before (x ∷ L) b e =
    let p = or_parts (is_start run.child x) (list_any (is_start run.child) L) e in
    rw b (undecided_before run (before ++ x ∷ []) L (list_any-push (is_start run.child) before x ∙ rw (b, p.0) refl) p.1)

pub none_in : (k : ℕ) (L : List Item) → list_any (names_child k) L ≡ false → child_in L k ≡ []
none_in k [] e = refl
none_in k (x ∷ L) e =
    let p = or_parts (names_child k x) (list_any (names_child k) L) e in
    rw (no_input k x p.0) (none_in k L p.1)

none_turn_at : (k : ℕ) (before : List Item) (x : Item) → names_child k x ≡ false → is_fed_in_turn k before x ≡ true
none_turn_at k before (Out (Feed d bytes)) e = rw e refl
none_turn_at k before x e = refl

pub none_turn : (k : ℕ) (before L : List Item) → list_any (names_child k) L ≡ false → each_from (is_fed_in_turn k) before L ≡ true
none_turn k before [] e = refl
none_turn k before (x ∷ L) e =
    let p = or_parts (names_child k x) (list_any (names_child k) L) e in
    rw (none_turn_at k before x p.0) (none_turn k (before ++ x ∷ []) L p.1)

pub none_taken : (k n : ℕ) (L : List Item) → list_any (names_child k) L ≡ false → fold (λ (n : ℕ) (y : Item). n + count_took k y) n L ≡ n
none_taken k n [] e = refl
none_taken k n (x ∷ L) e =
    let p = or_parts (names_child k x) (list_any (names_child k) L) e in
    ap (λ m. fold (λ (n : ℕ) (y : Item). n + count_took k y) m L) (ap (λ t. n + t) (no_took k x p.0) ∙ add-zero n) ∙ none_taken k n L p.1

and_none : (ws b : Bool) → (ws ≡ true → b ≡ false) → false ≡ (ws && b)
and_none true b f = sym (f refl)
and_none false b f = refl

module _ (s : Setting) (k : ℕ) (kind : ScriptKind) (body : List ℕ) (whole : Bool) (d j hop : ℕ) (launch : Launch) (L : List Item)
    (fresh : list_any (names_child k) L ≡ false) (unclosed : is_websocket kind ≡ true → list_any (is_ws_closed s.conn) L ≡ false) (going : stopped L ≡ false)
    (heard : (s.offered (L ++ Out (Start k d j hop launch) ∷ [])).body ≡ body) (all : is_websocket kind ≡ false → whole ≡ (s.offered (L ++ Out (Start k d j hop launch) ∷ [])).whole)
    (talk : is_websocket kind ≡ true → (s.offered (L ++ Out (Start k d j hop launch) ∷ [])).whole ≡ true) where
  unstarted : list_any (is_start k) L ≡ false
  unstarted = none (is_start k) k L (start_names k) fresh

  free_at : decided_at (run_in s (just_begun s k kind body whole)) (L ++ Out (Start k d j hop launch) ∷ []) ≡ None
  free_at = at_pushed (run_in s (just_begun s k kind body whole)) L (Out (Start k d j hop launch)) ∙ rw (undecided_before (run_in s (just_begun s k kind body whole)) [] L refl unstarted, unstarted) refl

  no_input_yet : child_in (L ++ Out (Start k d j hop launch) ∷ []) k ≡ []
  no_input_yet = child_in-push L (Out (Start k d j hop launch)) k ∙ rw (none_in k L fresh) refl

  begun_since : since (is_start k) (L ++ Out (Start k d j hop launch) ∷ []) ≡ []
  begun_since = since_first (is_start k) L (Out (Start k d j hop launch)) unstarted

  count_none : (test : Item → Bool) → ((y : Item) → test y ≡ true → names_child k y ≡ true) → test (Out (Start k d j hop launch)) ≡ false → count_by test (L ++ Out (Start k d j hop launch) ∷ []) ≡ 0
  count_none test names not_it = count_by-push test L (Out (Start k d j hop launch)) ∙ rw (none_count test 0 L (none test k L names fresh), not_it) refl

  pub Knows-start : KnowsRun false s (just_begun s k kind body whole) (L ++ Out (Start k d j hop launch) ∷ [])
  Knows-start = record {
    book = refl;
    lingers = refl;
    starts = count_by-push (is_start k) L (Out (Start k d j hop launch)) ∙ rw (none_count (is_start k) 0 L unstarted, eq-eqb k k refl) refl;
    begun = list_any-push (is_start k) L (Out (Start k d j hop launch)) ∙ rw (unstarted, eq-eqb k k refl) refl;
    answers = count_none (is_start_answer k) (start_answer_names k) refl;
    exits = count_none (is_exited k) (exited_names k) refl;
    started = any_first (is_started k) L (Out (Start k d j hop launch)) (none (is_started k) k L (started_names k) fresh) refl;
    refused = any_first (is_refusal k) L (Out (Start k d j hop launch)) (none (is_refusal k) k L (refusal_names k) fresh) refl;
    exited = any_first (is_exited k) L (Out (Start k d j hop launch)) (none (is_exited k) k L (exited_names k) fresh) refl;
    input_ended = any_first (is_input_end k) L (Out (Start k d j hop launch)) (none (is_input_end k) k L (input_names k) fresh) refl;
    output_ended = any_first (is_output_end k) L (Out (Start k d j hop launch)) (none (is_output_end k) k L (output_names k) fresh) refl;
    killed = any_first (is_kill k) L (Out (Start k d j hop launch)) (none (is_kill k) k L (kill_names k) fresh) refl;
    asked = count_none (is_want_child k) (want_names k) refl ∙ sym (ap (λ n. n + 0) (count_none (is_child_answer k) (answer_names k) refl));
    decided = ap is_some free_at;
    by_output = ap (λ o. is_output_end_of (run_in s (just_begun s k kind body whole)) (option_and_then last_of o)) free_at;
    outcome = ap (λ o. option_map (outcome_at (run_in s (just_begun s k kind body whole))) (option_and_then last_of o)) free_at;
    eof = λ e. absurd (cc);
    hung_up = and_none (is_websocket kind) _ (λ w. sym (any_first (is_ws_closed s.conn) L (Out (Start k d j hop launch)) (unclosed w) refl));
    linger_left = omega arith;
    abandoned = λ e. absurd (cc);
    run_left = rw begun_since (omega arith);
    output_left = rw begun_since (omega arith);
    within = λ u w. rw begun_since (omega arith);
    body = λ u. heard ∙ sym (ap (λ l. l ++ body) no_input_yet);
    front = record { rest = body; is = ap (λ l. l ++ body) no_input_yet ∙ sym heard };
    whole = λ u w. all w;
    talk = talk;
    took = add-zero _ ∙ (took_sum-push L (Out (Start k d j hop launch)) k ∙ rw (none_taken k 0 L fresh, no_input_yet) refl);
    in_turn = λ w. each-push (is_fed_in_turn k) L (Out (Start k d j hop launch)) ∙ rw (none_turn k [] L fresh) refl;
    owes = λ e w. rw (sym (any_first (is_end_input k) L (Out (Start k d j hop launch)) (none (is_end_input k) k L (end_input_names k) fresh) refl)) refl;
    stops = λ e. absurd (false≢true (any_first is_stop L (Out (Start k d j hop launch)) going refl ∙ e));
  }
