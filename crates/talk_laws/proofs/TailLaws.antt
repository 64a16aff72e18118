-- What follows the acts of a talk and of its child in a step: nothing, the Shut, or the question.
use Rattle.std.proofs.Common.{◌≡◌, ◌≤◌, ℕ, ◌+◌, Bool, true, false, List, [], ◌∷◌, ◌++◌, Option, Some, None, refl, sym, ap, ◌∙◌, append-nil}
use Rattle.std.specs.Prelude.{◌&&◌, ◌||◌, ◌==◌, not, if◌then◌else◌}
use Rattle.std.specs.List.{flat_map, list_any}
use Rattle.std.proofs.lemmas.Bool.{and_from, and_parts, eq-eqb, false≢true, not-true, or_right}
use Rattle.std.proofs.lemmas.Grind.{flat_map-append}
use Rattle.std.proofs.lemmas.List.Folds.{list_any-append}
use Rattle.host_base.specs.declared.site.Site.{Site}
use Rattle.host_trace.specs.declared.items.Act.{Act}
use Rattle.host_trace.specs.declared.items.Act.TheVariants.{Shut, WantClient}
use Rattle.host_trace.specs.declared.items.Event.{Event}
use Rattle.host_trace.specs.declared.items.Item.{Item}
use Rattle.host_trace.specs.declared.items.Item.TheVariants.{Out}
use Rattle.host_trace.specs.declared.items.Why.{Why}
use Rattle.host_trace.specs.Kinds.{is_accepted, is_no_memory, is_no_room, is_shut, is_stop, is_want_client}
use Rattle.host_trace.specs.Projections.{client_wanted, shut, stopped}
use Rattle.host_trace.proofs.FirstLaws.{count_by-push}
use Rattle.trace_child.specs.Words.{given, implies, once}
use Rattle.trace_model.specs.Answers.{begins_in_turn}
use Rattle.trace_model.specs.Demands.{has_room, is_live, must_hear}
use Rattle.trace_model.specs.Exchange.{Exchange, all_of, pushed}
use Rattle.trace_model.specs.Form.{comes_in_form}
use Rattle.trace_model.specs.Hears.{hears}
use Rattle.trace_model.specs.Launches.{is_right_start}
use Rattle.trace_model.specs.Legs.{Leg}
use Rattle.trace_model.specs.Sameness.{is_same_why}
use Rattle.trace_model.specs.Shuts.{are_whys, why_due, whys_due, whys_given, whys_of}
use Rattle.trace_model.specs.Stops.{stops}
use Rattle.trace_model.specs.TakesNoMemory.{is_shut_act}
use Rattle.trace_model.specs.Talks.{is_right_talk_act}
use Rattle.trace_model.proofs.SamenessLaws.{are_same-refl, is_same_why-refl}
use Rattle.child_core.specs.Calls.{wants_text}
use Rattle.child_core.specs.Due.{is_at_rest}
use Rattle.child_core.specs.View.{View as Run}
use Rattle.child_core.proofs.ActLaws.{and_false}
use Rattle.child_laws.specs.Laws.{with_acts}
use Rattle.child_laws.specs.Step.{served}
use Rattle.talk_core.specs.View.{View as Talk, given_up}
use Rattle.talk_laws.specs.Deals.{TalkDeals}
use Rattle.talk_laws.specs.Form.{AreUnwritten, each_keeps, rises}
use Rattle.talk_laws.specs.Rules.{why_at}
use Rattle.talk_laws.specs.Steps.{tail_by, talk_by}
use Rattle.talk_laws.specs.TalkIs.{TalkIs, TalkRests}
use Rattle.talk_laws.proofs.ActLaws.{AreSmall, asks_move, shuts_move, with_none}
use Rattle.talk_laws.proofs.DealLaws.{conn_acts_deal}
use Rattle.talk_laws.proofs.GreetedLaws.{greeted_unended}
use Rattle.talk_laws.proofs.HearLaws.{spoken_all}
use Rattle.talk_laws.proofs.RestLaws.{no_feed}
use Rattle.talk_laws.proofs.JoinLaws.{room_still, small_asks, small_kept, small_whys, why_still}
use Rattle.talk_laws.proofs.ListLaws.{all_push, any_push, any_still, wanted_now}
use Rattle.talk_laws.proofs.RuleLaws.{implied, unasked}
use Rattle.talk_laws.proofs.TalkLaws.{talks_say_demands}
use Rattle.talk_laws.proofs.WhyLaws.{ask_none, heard_by, live_shut, why_none, why_some}

-- what is known at the end of the step, where these are all its acts
pub record TailIs (site : Site) (c : ℕ) (L : List Item) (ev : Event) (legs : List Leg) (continued may : Bool) (next : ℕ) (e1 e3 : Exchange) (acts12 tail : List Act) (v : Run) (t4 : Talk) : Type 0 where
  pub acts : List Act
  pub acts_are : acts12 ++ tail ≡ acts
  pub last : Exchange
  pub last_is : with_acts e3 tail ≡ last
  pub talk : TalkIs site c last legs continued t4 v
  pub rests : TalkRests c last t4 v
  pub deals : TalkDeals site c L ev acts last [] (served may) next v
  pub rise : rises 8 tail ≡ true
  pub unwritten : AreUnwritten c tail
  pub form : each_keeps comes_in_form e3 tail ≡ true
  pub starts : each_keeps (is_right_start site c) e3 tail ≡ true
  pub talk_acts : each_keeps (is_right_talk_act site c) e3 tail ≡ true
  pub in_turn : each_keeps (begins_in_turn site c) e3 tail ≡ true
  pub whys : (if shut L c then are_whys (whys_given c acts) [] else are_whys (whys_given c acts) (whys_due (why_due site c last))) ≡ true
  pub asks : (given (is_want_client c) acts == once (must_hear site c last && not (client_wanted (all_of e1) c))) ≡ true
  pub hears_then : hears site c last ≡ true
  pub stops_then : stops c last ≡ true
  pub kept : list_any (is_shut_act c) acts ≡ false

module _ (site : Site) (c : ℕ) (L : List Item) (ev : Event) (legs : List Leg) (continued may : Bool) (next : ℕ) (two : 2 ≤ site.limits.head) (e1 e3 : Exchange) (acts12 : List Act) (v : Run) (t : Talk)
    (talk : TalkIs site c e3 legs continued t v) (deals : TalkDeals site c L ev acts12 e3 [] (served may) next v) (small : AreSmall acts12) (rest : is_at_rest may v ≡ true)
    (texts : t.texts ≡ []) (code : t.code ≡ None) (accepted : list_any is_accepted (all_of e3) ≡ true) (found : list_any (is_no_room c) (all_of e3) ≡ false)
    (shut_is : shut (all_of e3) c ≡ shut L c) (wanted_is : client_wanted (all_of e3) c ≡ client_wanted (all_of e1) c) where
  demands : must_hear site c e3 ≡ (is_live c (all_of e3) && has_room c (all_of e3) && wants_text v)
  demands = (talks_say_demands site c e3 legs continued t v talk).hears_then

  why_is : why_due site c e3 ≡ why_at c (all_of e3) t.over
  why_is = (talks_say_demands site c e3 legs continued t v talk).why_then

  none_asked : given (is_want_client c) acts12 ≡ 0
  none_asked = small_asks c 0 acts12 small

  -- nothing follows
  nothing : (t.over ≡ true → shut (all_of e3) c ≡ true)
      → (if shut L c then are_whys (whys_given c acts12) [] else are_whys (whys_given c acts12) (whys_due (why_due site c e3))) ≡ true
      → (must_hear site c e3 && not (client_wanted (all_of e1) c)) ≡ false → hears site c e3 ≡ true → stops c e3 ≡ true
      → TailIs site c L ev legs continued may next e1 e3 acts12 [] v t
  nothing over whys not_due hears_then stops_then = record {
    acts = acts12;
    acts_are = append-nil acts12;
    last = e3;
    last_is = with_none e3;
    talk = talk;
    rests = record { texts = texts; code = code; may = may; rests = rest; over_shut = over };
    deals = deals;
    rise = refl;
    unwritten = tt;
    form = refl;
    starts = refl;
    talk_acts = refl;
    in_turn = refl;
    whys = whys;
    asks = ask_none _ _ none_asked not_due;
    hears_then = hears_then;
    stops_then = stops_then;
    kept = small_kept c acts12 small;
  }

  -- the connection was shut before
  after_shut : is_live c (all_of e3) ≡ false → TailIs site c L ev legs continued may next e1 e3 acts12 [] v t
  after_shut dead =
      let is_shut_then : shut (all_of e3) c ≡ true = live_shut _ _ accepted dead in
      let unheard : must_hear site c e3 ≡ false = demands ∙ ap (λ b. b && has_room c (all_of e3) && wants_text v) dead in
      nothing (λ over. is_shut_then)
      (ap (λ (b : Bool). if b then are_whys (whys_given c acts12) [] else are_whys (whys_given c acts12) (whys_due (why_due site c e3))) (sym shut_is ∙ is_shut_then)
      ∙ ap (λ g. are_whys g []) (small_whys c acts12 small))
      (ap (λ b. b && not (client_wanted (all_of e1) c)) unheard) (unasked (must_hear site c e3) (client_wanted (all_of e3) c) unheard)
      (implied (stopped (all_of e3)) (not (is_live c (all_of e3))) (ap not dead))

  module _ (live : is_live c (all_of e3) ≡ true) where
    unshut : shut (all_of e3) c ≡ false
    unshut = not-true (shut (all_of e3) c) (and_parts (list_any is_accepted (all_of e3)) (not (shut (all_of e3) c)) live).1

    unshut_before : shut L c ≡ false
    unshut_before = sym shut_is ∙ unshut

    -- by the reason that there is at the end
    whys_by : (acts : List Act) (last : Exchange) (gives : List Why) (why : Option Why) → whys_given c acts ≡ gives → why_due site c last ≡ why → are_whys gives (whys_due why) ≡ true
        → (if shut L c then are_whys (whys_given c acts) [] else are_whys (whys_given c acts) (whys_due (why_due site c last))) ≡ true
    whys_by acts last gives why given_is due_is same =
        ap (λ (b : Bool). if b then are_whys (whys_given c acts) [] else are_whys (whys_given c acts) (whys_due (why_due site c last))) unshut_before
        ∙ ap (λ g. are_whys g (whys_due (why_due site c last))) given_is ∙ ap (λ w. are_whys gives (whys_due w)) due_is ∙ same

    -- it is shut
    shut_for : (why : Why) → why_at c (all_of e3) t.over ≡ Some why → TailIs site c L ev legs continued may next e1 e3 acts12 (Shut c why ∷ []) v (given_up t)
    shut_for why is =
        let x : Item = Out (Shut c why) in
        let last : Exchange = pushed e3 x in
        let parts = why_some c (all_of e3) t.over why is found talk.parted in
        let over : t.over ≡ true = parts.0 in
        let plain : is_no_memory why ≡ false = parts.1 in
        let then_talk : TalkIs site c last legs continued (given_up t) v =
        (shuts_move site c e3 legs continued t v two talk over texts code (no_feed may v rest)).plain why plain in
        let s = then_talk.spoken in
        let says = talks_say_demands site c last legs continued (given_up t) v then_talk in
        let shut_now : shut (all_of last) c ≡ true = any_push (is_shut c) e3 x ∙ or_right (shut (all_of e3) c) (c == c) (eq-eqb c c refl) in
        let dead : is_live c (all_of last) ≡ false = ap (λ b. list_any is_accepted (all_of last) && not b) shut_now ∙ and_false (list_any is_accepted (all_of last)) in
        let unheard : must_hear site c last ≡ false = says.hears_then ∙ ap (λ b. b && has_room c (all_of last) && wants_text v) dead in
        let whys_are : whys_given c (acts12 ++ Shut c why ∷ []) ≡ why ∷ [] =
        flat_map-append (whys_of c) acts12 (Shut c why ∷ []) ∙ ap (λ l. l ++ flat_map (whys_of c) (Shut c why ∷ [])) (small_whys c acts12 small)
        ∙ ap (λ b. (if b then why ∷ [] else []) ++ []) (eq-eqb c c refl) in
        let due_is : why_due site c last ≡ Some why =
        says.why_then ∙ why_still c (Shut c why ∷ []) e3 true ∙ ap (why_at c (all_of e3)) (sym over) ∙ is in
        record {
          acts = acts12 ++ Shut c why ∷ [];
          acts_are = refl;
          last = last;
          last_is = refl;
          talk = then_talk;
          rests = record { texts = refl; code = refl; may = may; rests = rest; over_shut = λ given_over. shut_now };
          deals = conn_acts_deal site c L ev acts12 e3 [] (served may) next v (Shut c why) refl (greeted_unended site c last continued s.value s.request s.mapped s.greeted) deals;
          rise = refl;
          unwritten = (refl, tt);
          form = and_from _ _ live refl;
          starts = refl;
          talk_acts = refl;
          in_turn = refl;
          whys = whys_by (acts12 ++ Shut c why ∷ []) last (why ∷ []) (Some why) whys_are due_is (are_same-refl is_same_why is_same_why-refl (why ∷ []));
          asks =
              ask_none _ _ (count_by-push (λ act. is_want_client c (Out act)) acts12 (Shut c why) ∙ ap (λ n. n + 0) none_asked)
              (ap (λ b. b && not (client_wanted (all_of e1) c)) unheard);
          hears_then = unasked (must_hear site c last) (client_wanted (all_of last) c) unheard;
          stops_then = implied (stopped (all_of last)) (not (is_live c (all_of last))) (ap not dead);
          kept =
              list_any-append (is_shut_act c) acts12 (Shut c why ∷ []) ∙ ap (λ b. b || (c == c && is_no_memory why || false)) (small_kept c acts12 small)
              ∙ ap (λ b. c == c && b || false) plain ∙ ap (λ b. b || false) (and_false (c == c));
        }

    module _ (none : why_at c (all_of e3) t.over ≡ None) where
      going : t.over ≡ false
      going = (why_none c (all_of e3) t.over none accepted).0

      unstopped : stopped (all_of e3) ≡ false
      unstopped = (why_none c (all_of e3) t.over none accepted).1

      -- the client is asked
      asked_for : (has_room c (all_of e3) && wants_text v && not (client_wanted (all_of e3) c)) ≡ true
          → TailIs site c L ev legs continued may next e1 e3 acts12 (WantClient c ∷ []) v t
      asked_for due =
          let x : Item = Out (WantClient c) in
          let last : Exchange = pushed e3 x in
          let p = and_parts (has_room c (all_of e3) && wants_text v) (not (client_wanted (all_of e3) c)) due in
          let q = and_parts (has_room c (all_of e3)) (wants_text v) p.0 in
          let free : client_wanted (all_of e3) c ≡ false = not-true (client_wanted (all_of e3) c) p.1 in
          let then_talk : TalkIs site c last legs continued t v = asks_move site c e3 legs continued t v two talk free q.1 (no_feed may v rest) in
          let s = then_talk.spoken in
          let says = talks_say_demands site c last legs continued t v then_talk in
          let still_live : is_live c (all_of last) ≡ true =
          and_from _ _ (any_still is_accepted e3 x refl ∙ accepted) (ap not (any_still (is_shut c) e3 x refl ∙ unshut)) in
          let roomy : has_room c (all_of last) ≡ true =
          ap (has_room c) (all_push e3 x) ∙ room_still c (all_of e3) x (spoken_all site c e3 legs continued v.number talk.spoken) refl refl refl ∙ q.0 in
          let must : must_hear site c last ≡ true = says.hears_then ∙ and_from _ _ (and_from _ _ still_live roomy) q.1 in
          let whys_are : whys_given c (acts12 ++ WantClient c ∷ []) ≡ [] =
          flat_map-append (whys_of c) acts12 (WantClient c ∷ []) ∙ ap (λ l. l ++ flat_map (whys_of c) (WantClient c ∷ [])) (small_whys c acts12 small) in
          let due_is : why_due site c last ≡ None = says.why_then ∙ why_still c (WantClient c ∷ []) e3 t.over ∙ none in
          record {
            acts = acts12 ++ WantClient c ∷ [];
            acts_are = refl;
            last = last;
            last_is = refl;
            talk = then_talk;
            rests = record { texts = texts; code = code; may = may; rests = rest; over_shut = λ over. absurd (false≢true (sym going ∙ over)) };
            deals = conn_acts_deal site c L ev acts12 e3 [] (served may) next v (WantClient c) refl (greeted_unended site c last continued s.value s.request s.mapped s.greeted) deals;
            rise = refl;
            unwritten = (refl, tt);
            form = and_from _ _ (and_from _ _ live p.1) refl;
            starts = refl;
            talk_acts = refl;
            in_turn = refl;
            whys = whys_by (acts12 ++ WantClient c ∷ []) last [] None whys_are due_is refl;
            asks =
                one_asked _ _ _
                (count_by-push (λ act. is_want_client c (Out act)) acts12 (WantClient c) ∙ ap (λ b. given (is_want_client c) acts12 + (if b then 1 else 0)) (eq-eqb c c refl) ∙ ap (λ n. n + 1) none_asked)
                must (sym wanted_is ∙ free);
            hears_then = implied (must_hear site c last) (client_wanted (all_of last) c) (wanted_now c e3 x (eq-eqb c c refl) refl talk.spoken.once);
            stops_then = unasked (stopped (all_of last)) (not (is_live c (all_of last))) (any_still is_stop e3 x refl ∙ unstopped);
            kept = list_any-append (is_shut_act c) acts12 (WantClient c ∷ []) ∙ ap (λ b. b || (false || false)) (small_kept c acts12 small);
          }
        where
          one_asked : (g : ℕ) (m w : Bool) → g ≡ 1 → m ≡ true → w ≡ false → (g == once (m && not w)) ≡ true
          one_asked g m w one must free = rw (one, must, free) refl

      -- nothing is due
      left_alone : (has_room c (all_of e3) && wants_text v && not (client_wanted (all_of e3) c)) ≡ false → TailIs site c L ev legs continued may next e1 e3 acts12 [] v t
      left_alone not_due =
          let hears_is : must_hear site c e3 ≡ (has_room c (all_of e3) && wants_text v) =
          demands ∙ ap (λ b. b && has_room c (all_of e3) && wants_text v) live in
          nothing (λ over. absurd (false≢true (sym going ∙ over)))
          (whys_by acts12 e3 [] None (small_whys c acts12 small) (why_is ∙ none) refl)
          (ap (λ b. b && not (client_wanted (all_of e1) c)) hears_is ∙ ap (λ b. has_room c (all_of e3) && wants_text v && not b) (sym wanted_is) ∙ not_due)
          (ap (λ b. implies b (client_wanted (all_of e3) c)) hears_is ∙ heard_by (has_room c (all_of e3)) (wants_text v) (client_wanted (all_of e3) c) not_due)
          (unasked (stopped (all_of e3)) (not (is_live c (all_of e3))) unstopped)

  pub tail_is : (live : Bool) → is_live c (all_of e3) ≡ live → (why : Option Why) → why_at c (all_of e3) t.over ≡ why
      → (due : Bool) → (has_room c (all_of e3) && wants_text v && not (client_wanted (all_of e3) c)) ≡ due
      → TailIs site c L ev legs continued may next e1 e3 acts12 (tail_by c live why due) v (talk_by live why t)
  tail_is false dead why is due asked = after_shut dead
  tail_is true live (Some why) is due asked = shut_for live why is
  tail_is true live None is true asked = asked_for live is asked
  tail_is true live None is false asked = left_alone live is asked
