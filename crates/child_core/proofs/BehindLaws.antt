-- Items that don't name a run's child may stand before those that its run knows.
use Rattle.std.proofs.Common.{◌≡◌, ℕ, ◌+◌, ◌-◌, List, [], ◌∷◌, ◌++◌, Bool, true, false, ◌||◌, ◌&&◌, refl, sym, ◌∙◌, ap, Option, Some, None, length, append-nil, append_assoc, zero-add, subst, inl, inr}
use Rattle.std.specs.Prelude.{if◌then◌else◌, ◌==◌, not, is_some, count_by, option_and_then, option_map}
use Rattle.std.specs.List.{list_any, fold}
use Rattle.std.proofs.lemmas.Bool.{cases_Bool, and_parts, and_from, or_parts, or_cases, or_right, eqb-true, not-true, not_from_false}
use Rattle.std.proofs.lemmas.Grind.{fold-append, flat_map-append}
use Rattle.std.proofs.lemmas.List.Folds.{list_any-append}
use Rattle.std.proofs.lemmas.List.Sums.{sum_by-append}
use Rattle.std.proofs.Math.Seq.{drop-append_seam}
use Rattle.host_trace.specs.declared.items.Act.TheVariants.{Feed}
use Rattle.host_trace.specs.declared.items.Event.{Event}
use Rattle.host_trace.specs.declared.items.Event.TheVariants.{ClientEof, Started, StartFailed, StartFull, ChildBytes, ChildEof, ChildBroken, Took, InputGone, Exited}
use Rattle.host_trace.specs.declared.items.Item.{Item}
use Rattle.host_trace.specs.declared.items.Item.TheVariants.{In, Out}
use Rattle.host_trace.specs.First.{since, first_front_from, last_of}
use Rattle.host_trace.specs.Fits.{fits, is_start_open, is_output_asked, may_take, is_piece}
use Rattle.host_trace.specs.Kinds.{names_child, is_start, is_start_answer, is_started, is_exited, is_input_end, is_output_end, is_kill, is_want_child, is_child_answer, is_child_eof, is_end_input, is_input_gone, is_shut_for_memory, is_ws_closed, is_stop, input_fed, count_took}
use Rattle.host_trace.specs.Projections.{child_in, child_out, took_sum, tick_count, started, exited, input_ended, stopped, shut_for_memory}
use Rattle.host_trace.specs.Account.{is_refusal}
use Rattle.host_trace.specs.Decider.{is_websocket}
use Rattle.trace_child.specs.Words.{implies, each, each_from, until}
use Rattle.trace_child.specs.Run.{Run}
use Rattle.trace_child.specs.Decided.{decides_run, cuts_body_short, decided_at, is_decided, outcome_at, is_output_end_of}
use Rattle.trace_child.specs.ChildDemands.{is_all_taken, is_hung_up, is_fed_whole as is_body_fed, ends_waiting}
use Rattle.trace_child.specs.Bodies.{is_fed_in_turn, ends_reading, is_excused, owes_whole}
use Rattle.trace_child.proofs.WordLaws.{implied, implies_from}
use Rattle.host_trace.proofs.FirstLaws.{last_of-append}
use Rattle.child_core.specs.View.{View}
use Rattle.child_core.specs.Calls.{fits_run}
use Rattle.child_core.specs.Setting.{Setting, run_in}
use Rattle.child_core.specs.Knows.{KnowsRun, waited}
use Rattle.child_core.specs.Tells.{behind}
use Rattle.child_core.proofs.WordLaws.{none, none_count, start_names, started_names, start_answer_names, refusal_names, exited_names, input_names, output_names, kill_names, want_names, answer_names, eof_names, end_input_names}
use Rattle.child_core.proofs.StartLaws.{none_in, none_turn, none_taken, undecided_before}
use Rattle.child_core.proofs.AdmitLaws.{fits_is}

-- ---- words over two lists

any_behind : (test : Item → Bool) (before L : List Item) → list_any test before ≡ false → list_any test (before ++ L) ≡ list_any test L
any_behind test before L e = list_any-append test before L ∙ ap (λ b. b || list_any test L) e

count_behind : (test : Item → Bool) (before L : List Item) → list_any test before ≡ false → count_by test (before ++ L) ≡ count_by test L
count_behind test before L e =
    fold-append (λ (n : ℕ) (y : Item). n + (if test y then 1 else 0)) 0 before L
    ∙ ap (λ n. fold (λ (n : ℕ) (y : Item). n + (if test y then 1 else 0)) n L) (none_count test 0 before e)

since_behind : (test : Item → Bool) (before L : List Item) → list_any test before ≡ false → since test (before ++ L) ≡ since test L
since_behind test [] L e = refl
since_behind test (x ∷ before) L e =
    let p = or_parts (test x) (list_any test before) e in
    rw p.0 (since_behind test before L p.1)

until_behind : (test : Item → Bool) (before L : List Item) → list_any test before ≡ false → until test (before ++ L) ≡ before ++ until test L
until_behind test [] L e = refl
until_behind test (x ∷ before) L e =
    let p = or_parts (test x) (list_any test before) e in
    rw p.0 (ap (λ l. x ∷ l) (until_behind test before L p.1))

each_from-append : (test : List Item → Item → Bool) (acc xs ys : List Item) → each_from test acc (xs ++ ys) ≡ (each_from test acc xs && each_from test (acc ++ xs) ys)
each_from-append test acc [] ys = ap (λ l. each_from test l ys) (sym (append-nil acc))
each_from-append test acc (x ∷ xs) ys =
    ap (λ b. test acc x && b) (each_from-append test (acc ++ x ∷ []) xs ys ∙ ap (λ l. each_from test (acc ++ x ∷ []) xs && each_from test l ys) (append_assoc acc (x ∷ []) xs))
    ∙ go (test acc x) (each_from test (acc ++ x ∷ []) xs) (each_from test (acc ++ x ∷ xs) ys)
  where
    go : (a b c : Bool) → (a && (b && c)) ≡ ((a && b) && c)
    go true b c = refl
    go false b c = refl

each_same : (f g : List Item → Item → Bool) (before acc L : List Item) → ((front : List Item) (x : Item) → f (before ++ front) x ≡ g front x) → each_from f (before ++ acc) L ≡ each_from g acc L
each_same f g before acc [] same = refl
each_same f g before acc (x ∷ L) same =
    rw (same acc x, append_assoc before acc (x ∷ []))
    (ap (λ b. g acc x && b) (each_same f g before (acc ++ x ∷ []) L same))

-- the first item that passes is the same, where the test says the same
first_skips : (test : List Item → Item → Bool) (acc xs L : List Item) → first_front_from test acc xs ≡ None → first_front_from test acc (xs ++ L) ≡ first_front_from test (acc ++ xs) L
first_skips test acc [] L e = ap (λ l. first_front_from test l L) (sym (append-nil acc))
first_skips test acc (x ∷ xs) L e = elim (cases_Bool (test acc x)) [
  | inl is ↦ absurd (let f : first_front_from test acc (x ∷ xs) ≡ Some (acc ++ x ∷ []) = rw is refl in let g = sym f ∙ e in cc)
  | inr is ↦
      let f : first_front_from test acc (x ∷ xs) ≡ first_front_from test (acc ++ x ∷ []) xs = rw is refl in
      rw is (first_skips test (acc ++ x ∷ []) xs L (sym f ∙ e) ∙ ap (λ l. first_front_from test l L) (append_assoc acc (x ∷ []) xs))
]

-- what a front tells: whether there is one, and its last item
record SameFront (f g : Option (List Item)) : Type 0 where
  found : is_some f ≡ is_some g
  last : option_and_then last_of f ≡ option_and_then last_of g

last_is : (L : List Item) (x : Item) → last_of (L ++ x ∷ []) ≡ Some x
last_is L x = last_of-append L (x ∷ [])

first_same : (f g : List Item → Item → Bool) (before acc L : List Item) → ((front : List Item) (x : Item) → f (before ++ front) x ≡ g front x) →
    SameFront (first_front_from f (before ++ acc) L) (first_front_from g acc L)
first_same f g before acc [] same = record { found = refl; last = refl }
first_same f g before acc (x ∷ L) same = elim (cases_Bool (g acc x)) [
  | inl is ↦ rw (same acc x, is) (record { found = refl; last = last_is (before ++ acc) x ∙ sym (last_is acc x) })
  | inr is ↦ rw (same acc x, is, append_assoc before acc (x ∷ [])) (first_same f g before (acc ++ x ∷ []) L same)
]

-- ---- the child

module _ (k : ℕ) (before : List Item) (fresh : list_any (names_child k) before ≡ false) where
  unseen : (test : ℕ → Item → Bool) → ((j : ℕ) (y : Item) → test j y ≡ true → names_child j y ≡ true) → list_any (test k) before ≡ false
  unseen test names = none (test k) k before (names k) fresh

  in_behind : (L : List Item) → child_in (before ++ L) k ≡ child_in L k
  in_behind L = flat_map-append (input_fed k) before L ∙ ap (λ l. l ++ child_in L k) (none_in k before fresh)

  took_behind : (L : List Item) → took_sum (before ++ L) k ≡ took_sum L k
  took_behind L = sum_by-append (count_took k) before L ∙ (ap (λ n. n + took_sum L k) (none_taken k 0 before fresh) ∙ zero-add (took_sum L k))

  taken_behind : (L : List Item) → is_all_taken (before ++ L) k ≡ is_all_taken L k
  taken_behind L = rw (took_behind L, in_behind L) refl

  turn_behind : (front : List Item) (x : Item) → is_fed_in_turn k (before ++ front) x ≡ is_fed_in_turn k front x
  turn_behind front (Out (Feed d bytes)) = ap (λ b. implies (k == d) (b && is_piece bytes)) (taken_behind front)
  turn_behind front x = refl

  each_behind : (L : List Item) → each (is_fed_in_turn k) L ≡ true → each (is_fed_in_turn k) (before ++ L) ≡ true
  each_behind L e =
      each_from-append (is_fed_in_turn k) [] before L
      ∙ and_from _ _ (none_turn k [] before fresh)
      (ap (λ l. each_from (is_fed_in_turn k) l L) (sym (append-nil before)) ∙ (each_same (is_fed_in_turn k) (is_fed_in_turn k) before [] L turn_behind ∙ e))

  -- ---- what fits

  open_behind : (L : List Item) → is_start_open (before ++ L) k ≡ is_start_open L k
  open_behind L = rw (any_behind (is_start k) before L (unseen is_start start_names), any_behind (is_start_answer k) before L (unseen is_start_answer start_answer_names)) refl

  asked_behind : (L : List Item) → is_output_asked (before ++ L) k ≡ is_output_asked L k
  asked_behind L =
      rw (
        any_behind (is_started k) before L (unseen is_started started_names),
        any_behind (is_output_end k) before L (unseen is_output_end output_names),
        count_behind (is_child_answer k) before L (unseen is_child_answer answer_names),
        count_behind (is_want_child k) before L (unseen is_want_child want_names),
      ) refl

  take_behind : (L : List Item) (n : ℕ) → may_take (before ++ L) k n ≡ may_take L k n
  take_behind L n = rw (any_behind (is_started k) before L (unseen is_started started_names), took_behind L, in_behind L) refl

  same_at : (P Q : ℕ → Bool) (d : ℕ) → P k ≡ Q k → (k == d) ≡ true → P d ≡ Q d
  same_at P Q d e same = ap P (sym (eqb-true k d same)) ∙ (e ∙ ap Q (eqb-true k d same))

  pub fits_behind : (limit : ℕ) (L : List Item) (ev : Event) → names_child k (In ev) ≡ true → fits limit (before ++ L) ev ≡ fits limit L ev
  fits_behind limit L (Started d) e = same_at (is_start_open (before ++ L)) (is_start_open L) d (open_behind L) e
  fits_behind limit L (StartFailed d) e = same_at (is_start_open (before ++ L)) (is_start_open L) d (open_behind L) e
  fits_behind limit L (StartFull d seen) e = ap (λ b. b && seen == limit) (same_at (is_start_open (before ++ L)) (is_start_open L) d (open_behind L) e)
  fits_behind limit L (ChildBytes d bytes) e = ap (λ b. b && is_piece bytes) (same_at (is_output_asked (before ++ L)) (is_output_asked L) d (asked_behind L) e)
  fits_behind limit L (ChildEof d) e = same_at (is_output_asked (before ++ L)) (is_output_asked L) d (asked_behind L) e
  fits_behind limit L (ChildBroken d) e = same_at (is_output_asked (before ++ L)) (is_output_asked L) d (asked_behind L) e
  fits_behind limit L (Took d n) e = same_at (λ j. may_take (before ++ L) j n) (λ j. may_take L j n) d (take_behind L n) e
  fits_behind limit L (InputGone d) e = same_at (λ j. started (before ++ L) j && not (input_ended (before ++ L) j)) (λ j. started L j && not (input_ended L j)) d
      (rw (any_behind (is_started k) before L (unseen is_started started_names), any_behind (is_input_end k) before L (unseen is_input_end input_names)) refl) e
  fits_behind limit L (Exited d) e = same_at (λ j. started (before ++ L) j && not (exited (before ++ L) j)) (λ j. started L j && not (exited L j)) d
      (rw (any_behind (is_started k) before L (unseen is_started started_names), any_behind (is_exited k) before L (unseen is_exited exited_names)) refl) e
  fits_behind limit L ev e = absurd (cc)

pub fits-behind : (early : Bool) (s : Setting) (v : View) (before L : List Item) → list_any (names_child v.number) before ≡ false → KnowsRun early s v L → (ev : Event) → names_child v.number (In ev) ≡ true →
    fits_run v ev ≡ fits s.limits.children (before ++ L) ev
fits-behind early s v before L fresh knows ev e = fits_is early s v L knows ev e ∙ sym (fits_behind v.number before fresh s.limits.children L ev e)

-- ---- the run

module _ (s : Setting) (v : View) (before : List Item) (fresh : list_any (names_child v.number) before ≡ false) where
  abbrev wide : Run
  wide = run_in (behind before s) v

  offer_behind : (front : List Item) → (behind before s).offered (before ++ front) ≡ s.offered front
  offer_behind front = ap s.offered (drop-append_seam before front)

  unstarted : list_any (is_start v.number) before ≡ false
  unstarted = unseen v.number before fresh is_start start_names

  cut_behind : (front : List Item) (x : Item) → cuts_body_short wide (before ++ front) x ≡ cuts_body_short (run_in s v) front x
  cut_behind front (In (ClientEof c)) = ap (λ o. s.conn == c && not o.whole) (offer_behind front)
  cut_behind front x = refl

  decides_behind : (front : List Item) (x : Item) → decides_run wide (before ++ front) x ≡ decides_run (run_in s v) front x
  decides_behind front x = rw (any_behind (is_start v.number) before front unstarted, since_behind (is_start v.number) before front unstarted, cut_behind front x) refl

  decided_behind : (L : List Item) → SameFront (decided_at wide (before ++ L)) (decided_at (run_in s v) L)
  decided_behind L =
      subst (λ f. SameFront f (decided_at (run_in s v) L))
      (ap (λ l. first_front_from (decides_run wide) l L) (append-nil before) ∙ sym (first_skips (decides_run wide) [] before L (undecided_before wide [] before refl unstarted)))
      (first_same (decides_run wide) (decides_run (run_in s v)) before [] L decides_behind)

  -- ---- what is owed

  unread : (L : List Item) → list_any (ends_reading v.number) (before ++ L) ≡ list_any (ends_reading v.number) L
  unread L = any_behind (ends_reading v.number) before L (none (ends_reading v.number) v.number before reading_names fresh)
    where
      reading_names : (y : Item) → ends_reading v.number y ≡ true → names_child v.number y ≡ true
      reading_names y e = elim (or_cases (is_input_gone v.number y || is_kill v.number y) (is_exited v.number y) e) [
        | inl p ↦ elim (or_cases (is_input_gone v.number y) (is_kill v.number y) p) [
          | inl g ↦ input_names v.number y (or_right (is_end_input v.number y) _ g)
          | inr t ↦ kill_names v.number y t
        ]
        | inr t ↦ exited_names v.number y t
      ]

  excused_behind : (L : List Item) → is_excused wide (before ++ L) ≡ is_excused (run_in s v) L
  excused_behind L =
      let front : until (is_end_input v.number) (before ++ L) ≡ before ++ until (is_end_input v.number) L = until_behind (is_end_input v.number) before L (unseen v.number before fresh is_end_input end_input_names) in
      ap (λ (l : List Item). list_any (ends_reading v.number) l || is_decided wide l) front
      ∙ rw (unread (until (is_end_input v.number) L), (decided_behind (until (is_end_input v.number) L)).found) refl

  fed_behind : (L : List Item) → is_body_fed wide (before ++ L) ≡ is_body_fed (run_in s v) L
  fed_behind L = rw (offer_behind L, in_behind v.number before fresh L) refl

  owes_behind : (L : List Item) → implies (owes_whole (run_in s v) L) (is_body_fed (run_in s v) L) ≡ true → implies (owes_whole wide (before ++ L)) (is_body_fed wide (before ++ L)) ≡ true
  owes_behind L e = implies_from _ _ (λ owes.
      let p = and_parts (list_any (is_end_input v.number) (before ++ L) && not (is_excused wide (before ++ L))) (not (shut_for_memory (before ++ L) s.conn)) owes in
      let q = and_parts (list_any (is_end_input v.number) (before ++ L)) (not (is_excused wide (before ++ L))) p.0 in
      let closed = sym (any_behind (is_end_input v.number) before L (unseen v.number before fresh is_end_input end_input_names)) ∙ q.0 in
      let excused = ap not (sym (excused_behind L)) ∙ q.1 in
      let memory = (or_parts (shut_for_memory before s.conn) (shut_for_memory L s.conn) (sym (list_any-append (is_shut_for_memory s.conn) before L) ∙ not-true _ p.1)).1 in
      fed_behind L ∙ implied _ _ e (and_from _ _ (and_from _ _ closed excused) (not_from_false _ memory)))

  -- ---- the WebSocket

  module _ (unclosed : is_websocket v.kind ≡ true → list_any (is_ws_closed s.conn) before ≡ false) where
    hung_behind : (L : List Item) → (is_websocket v.kind && list_any (is_ws_closed s.conn) L) ≡ (is_websocket v.kind && list_any (is_ws_closed s.conn) (before ++ L))
    hung_behind L = elim (cases_Bool (is_websocket v.kind)) [
      | inl ws ↦ rw ws (sym (any_behind (is_ws_closed s.conn) before L (unclosed ws)))
      | inr ws ↦ rw ws refl
    ]

    waited_behind : (L : List Item) → v.hung_up ≡ is_hung_up (run_in s v) L → waited (behind before s) v (before ++ L) ≡ waited s v L
    waited_behind L hung = elim (cases_Bool v.hung_up) [
      | inl h ↦ rw (
        since_behind (is_child_eof v.number) before L (unseen v.number before fresh is_child_eof eof_names),
        since_behind (is_ws_closed s.conn) before L (unclosed (and_parts (is_websocket v.kind) (list_any (is_ws_closed s.conn) L) (sym hung ∙ h)).0),
      ) refl
      | inr h ↦ rw (since_behind (is_child_eof v.number) before L (unseen v.number before fresh is_child_eof eof_names), h) refl
    ]

    pub Knows-behind : (early : Bool) (L : List Item) → stopped before ≡ false → KnowsRun early s v L → KnowsRun early (behind before s) v (before ++ L)
    Knows-behind early L going k =
        let d = decided_behind L in
        let begun : since (is_start v.number) (before ++ L) ≡ since (is_start v.number) L = since_behind (is_start v.number) before L unstarted in
        let ended : since (is_child_eof v.number) (before ++ L) ≡ since (is_child_eof v.number) L = since_behind (is_child_eof v.number) before L (unseen v.number before fresh is_child_eof eof_names) in
        record {
          book = k.book;
          lingers = k.lingers;
          starts = count_behind (is_start v.number) before L unstarted ∙ k.starts;
          begun = any_behind (is_start v.number) before L unstarted ∙ k.begun;
          answers = count_behind (is_start_answer v.number) before L (unseen v.number before fresh is_start_answer start_answer_names) ∙ k.answers;
          exits = count_behind (is_exited v.number) before L (unseen v.number before fresh is_exited exited_names) ∙ k.exits;
          started = k.started ∙ sym (any_behind (is_started v.number) before L (unseen v.number before fresh is_started started_names));
          refused = k.refused ∙ sym (any_behind (is_refusal v.number) before L (unseen v.number before fresh is_refusal refusal_names));
          exited = k.exited ∙ sym (any_behind (is_exited v.number) before L (unseen v.number before fresh is_exited exited_names));
          input_ended = k.input_ended ∙ sym (any_behind (is_input_end v.number) before L (unseen v.number before fresh is_input_end input_names));
          output_ended = k.output_ended ∙ sym (any_behind (is_output_end v.number) before L (unseen v.number before fresh is_output_end output_names));
          killed = k.killed ∙ sym (any_behind (is_kill v.number) before L (unseen v.number before fresh is_kill kill_names));
          asked = rw (
            count_behind (is_want_child v.number) before L (unseen v.number before fresh is_want_child want_names),
            count_behind (is_child_answer v.number) before L (unseen v.number before fresh is_child_answer answer_names),
          ) k.asked;
          decided = d.found ∙ k.decided;
          by_output = ap (is_output_end_of (run_in s v)) d.last ∙ k.by_output;
          outcome = ap (option_map (outcome_at (run_in s v))) d.last ∙ k.outcome;
          eof = λ o. any_behind (is_child_eof v.number) before L (unseen v.number before fresh is_child_eof eof_names) ∙ k.eof o;
          hung_up = k.hung_up ∙ hung_behind L;
          linger_left = k.linger_left ∙ ap (λ l. s.limits.linger_ticks - tick_count l) (sym (waited_behind L k.hung_up));
          abandoned = λ o. k.abandoned o ∙ ap (list_any (ends_waiting s.conn)) (sym ended);
          run_left = k.run_left ∙ ap (λ l. s.limits.run_ticks - tick_count l) (sym begun);
          output_left = k.output_left ∙ ap (λ l. s.limits.output - length (child_out l v.number)) (sym begun);
          within = λ u w. rw begun (k.within u w);
          body = λ u. ap (λ o. o.body) (offer_behind L) ∙ (k.body u ∙ ap (λ l. l ++ v.unfed) (sym (in_behind v.number before fresh L)));
          front = record {
            rest = k.front.rest;
            is = ap (λ l. l ++ k.front.rest) (in_behind v.number before fresh L) ∙ (k.front.is ∙ sym (ap (λ o. o.body) (offer_behind L)));
          };
          whole = λ u w. k.whole u w ∙ sym (ap (λ o. o.whole) (offer_behind L));
          talk = λ w. ap (λ o. o.whole) (offer_behind L) ∙ k.talk w;
          took = rw (took_behind v.number before fresh L, in_behind v.number before fresh L) k.took;
          in_turn = λ w. each_behind v.number before fresh L (k.in_turn w);
          owes = λ e w. owes_behind L (k.owes e w);
          stops = λ e. k.stops (sym (any_behind is_stop before L going) ∙ e);
        }
