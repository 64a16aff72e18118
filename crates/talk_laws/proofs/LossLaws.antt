-- A whole step in which memory runs out for a WebSocket keeps all rules.
use Rattle.std.proofs.Common.{◌≡◌, ◌≤◌, ℕ, ◌+◌, Bool, true, false, List, [], ◌∷◌, ◌++◌, refl, sym, ap, subst, ◌∙◌, append_assoc}
use Rattle.std.specs.Prelude.{◌&&◌, ◌||◌, ◌==◌, not, if◌then◌else◌}
use Rattle.std.specs.List.{flat_map, list_any}
use Rattle.std.proofs.lemmas.Bool.{and_from, and_parts, eq-eqb, false≢true, or_left, or_right}
use Rattle.std.proofs.lemmas.Grind.{flat_map-append}
use Rattle.std.proofs.lemmas.List.Folds.{list_any-append}
use Rattle.host_base.specs.declared.site.Site.{Site}
use Rattle.host_trace.specs.declared.items.Act.{Act}
use Rattle.host_trace.specs.declared.items.Act.TheVariants.{Shut}
use Rattle.host_trace.specs.declared.items.Event.{Event}
use Rattle.host_trace.specs.declared.items.Event.TheVariants.{ChildBytes, ChildEof, NoRoom, WsText}
use Rattle.host_trace.specs.declared.items.Item.{Item}
use Rattle.host_trace.specs.declared.items.Item.TheVariants.{In, Out}
use Rattle.host_trace.specs.declared.items.Why.TheVariants.{NoMemory}
use Rattle.host_trace.specs.Kinds.{is_accepted, is_no_room, is_shut, is_shut_for_memory, is_want_client, names_child}
use Rattle.host_trace.specs.Projections.{shut, shut_for_memory}
use Rattle.host_trace.specs.Trace.{step_of}
use Rattle.host_trace.proofs.FirstLaws.{count_by-push}
use Rattle.own_traces.specs.OwnFits.{fits_own}
use Rattle.trace_model.specs.Answers.{begins_in_turn}
use Rattle.trace_model.specs.Demands.{is_live}
use Rattle.trace_model.specs.Exchange.{Exchange, all_of, pushed}
use Rattle.trace_model.specs.Exchanges.{current}
use Rattle.trace_model.specs.Form.{comes_in_form}
use Rattle.trace_model.specs.Launches.{is_right_start}
use Rattle.trace_model.specs.Legs.{Leg}
use Rattle.trace_model.specs.Shuts.{are_whys, shuts, whys_given, whys_of}
use Rattle.trace_model.specs.TakesNoMemory.{takes_none}
use Rattle.trace_model.specs.Talks.{is_right_talk_act}
use Rattle.trace_model.proofs.ExchangeLaws.{all_of-current}
use Rattle.trace_model.proofs.SamenessLaws.{are_same-refl, is_same_why-refl}
use Rattle.trace_model.specs.Sameness.{is_same_why}
use Rattle.child_core.specs.Calls.{ended}
use Rattle.child_core.specs.declared.ending.Ending.TheVariants.{Dropped}
use Rattle.child_core.specs.Due.{acted as run_acted, acting as run_acting}
use Rattle.child_core.specs.View.{View as Run}
use Rattle.child_core.proofs.MemoryLaws.{acting-due}
use Rattle.child_laws.specs.Laws.{with_acts}
use Rattle.child_laws.specs.Step.{served, waiting}
use Rattle.talk_core.specs.Acting.{acted, acting}
use Rattle.talk_core.specs.Hearing.{heard, run_heard, takes_memory}
use Rattle.talk_core.specs.View.{View as Talk}
use Rattle.talk_laws.specs.Deals.{TalkDeals}
use Rattle.talk_laws.specs.Form.{TalkActsFit, each_keeps, rises}
use Rattle.talk_laws.specs.LostSteps.{LosesOn, LossStepsAreGood, saying_by}
use Rattle.talk_laws.specs.TalkIs.{TalkIs, TalkLostIs, TalkRests}
use Rattle.talk_laws.proofs.ActLaws.{AreSmall, Left, path_small, small_leave, talk_acts_move, talk_small, with_none}
use Rattle.talk_laws.proofs.DealLaws.{conn_acts_deal, talk_acts_deal}
use Rattle.talk_laws.proofs.FormLaws.{lost_acts_come_in_form, talk_acts_come_in_form}
use Rattle.talk_laws.proofs.GreetedLaws.{greeted_unended}
use Rattle.talk_laws.proofs.HearLaws.{events_keep_talks}
use Rattle.talk_laws.proofs.JoinLaws.{acts_still, each_append, small_append, small_asks, small_whys, unwritten_append, with_with}
use Rattle.talk_laws.proofs.ListLaws.{any_push, any_still}
use Rattle.talk_laws.proofs.LostLaws.{losses_move, lost_acts_move, lost_shuts_move}
use Rattle.talk_laws.proofs.OrderLaws.{talk_acts_rise}
use Rattle.talk_laws.proofs.ServeLaws.{losses_deal, lost_acts_deal}
use Rattle.talk_laws.proofs.StepLaws.{talk_events_begin}
use Rattle.talk_laws.proofs.LossEndLaws.{dead_by, first_at, heard_at, loses_on}

-- no such event is one of a step that takes none
takes_some : (site : Site) (c : ℕ) (acts : List Act) (L : List Item) (t : Talk) (ev : Event) → (takes_memory t ev || is_no_room c (In ev)) ≡ true → takes_none site c (step_of L ev acts) ev ≡ false
takes_some site c acts L t (WsText d bytes) is = refl
takes_some site c acts L t (ChildBytes d bytes) is = refl
takes_some site c acts L t (ChildEof d) is = refl
takes_some site c acts L t (NoRoom d) is = refl
takes_some site c acts L t ev is = absurd (false≢true is)

module _ (site : Site) (c : ℕ) (L : List Item) (ev : Event) (legs : List Leg) (continued said may : Bool) (t : Talk) (v : Run) (next : ℕ) (two : 2 ≤ site.limits.head)
    (is : TalkIs site c (current site c L) legs continued t v) (rest : TalkRests c (current site c L) t v) (fits : fits_own site.limits.children L ev ≡ true)
    (fresh : (k : ℕ) → next ≤ k → list_any (names_child k) L ≡ false) (accepted : list_any is_accepted L ≡ true) (open_before : shut L c ≡ false)
    (takes : (takes_memory t ev || is_no_room c (In ev)) ≡ true) where
  abbrev e1 : Exchange
  e1 = pushed (current site c L) (In ev)

  abbrev v1 : Run
  v1 = run_heard t v ev

  abbrev h1 : Run
  h1 = ended (run_heard t v ev) Dropped

  abbrev ts : Talk
  ts = saying_by said (heard t v ev)

  abbrev e2 : Exchange
  e2 = with_acts (pushed (current site c L) (In ev)) (acting (saying_by said (heard t v ev)))

  abbrev e3 : Exchange
  e3 = with_acts (with_acts (pushed (current site c L) (In ev)) (acting (saying_by said (heard t v ev)))) (run_acting may (ended (run_heard t v ev) Dropped))

  abbrev last : Exchange
  last = pushed e3 (Out (Shut c NoMemory))

  abbrev acts12 : List Act
  acts12 = acting (saying_by said (heard t v ev)) ++ run_acting may (ended (run_heard t v ev) Dropped)

  heard_first : TalkIs site c e1 legs continued (heard t v ev) v1
  heard_first = events_keep_talks site c (current site c L) legs continued t v ev two is rest (ap (λ l. fits_own site.limits.children l ev) (all_of-current site c L) ∙ fits)

  begun : TalkDeals site c L ev [] e1 [] waiting next v1
  begun = talk_events_begin site c L ev legs continued t v next two fits is rest fresh

  live_first : is_live c (all_of e1) ≡ true
  live_first =
      and_from _ _
      (ap (list_any is_accepted) (heard_at site c L ev) ∙ list_any-append is_accepted L (In ev ∷ []) ∙ ap (λ b. b || list_any is_accepted (In ev ∷ [])) accepted)
      (ap not (any_still (is_shut c) (current site c L) (In ev) refl ∙ ap (λ l. shut l c) (all_of-current site c L) ∙ open_before))

  -- the messages were given, or none
  record Said (b : Bool) : Type 0 where
    talk : Talk
    knows : TalkIs site c (with_acts e1 (acting (saying_by b (heard t v ev)))) legs continued talk v1
    deals : TalkDeals site c L ev (acting (saying_by b (heard t v ev))) (with_acts e1 (acting (saying_by b (heard t v ev)))) [] waiting next v1
    fit : TalkActsFit site c e1 (acting (saying_by b (heard t v ev)))

  said_by : (b : Bool) → Said b
  said_by true = record {
    talk = acted (heard t v ev);
    knows = talk_acts_move site c e1 legs continued (heard t v ev) v1 two heard_first;
    deals = talk_acts_deal site c L ev [] e1 [] waiting next legs continued (heard t v ev) v1 two heard_first begun;
    fit = talk_acts_come_in_form site c e1 legs continued (heard t v ev) v1 two live_first heard_first;
  }
  said_by false = record {
    talk = heard t v ev;
    knows = subst (λ d. TalkIs site c d legs continued (heard t v ev) v1) (sym (with_none e1)) heard_first;
    deals = subst (λ d. TalkDeals site c L ev [] d [] waiting next v1) (sym (with_none e1)) begun;
    fit = record { unwritten = tt; in_form = refl; starts = refl; talk_acts = refl; in_turn = refl };
  }

  sd : Said said
  sd = said_by said

  lost2 : TalkLostIs site c e2 legs continued true h1
  lost2 = losses_move site c e2 legs continued sd.talk v1 sd.knows

  deals2 : TalkDeals site c L ev (acting ts) e2 [] waiting next h1
  deals2 = losses_deal site c L ev (acting ts) e2 [] waiting next legs continued sd.talk v1 refl sd.knows sd.deals

  lost3 : TalkLostIs site c e3 legs continued true (run_acted may h1)
  lost3 = lost_acts_move site c e2 legs continued true may h1 two lost2

  deals3 : TalkDeals site c L ev acts12 e3 [] (served may) next (run_acted may h1)
  deals3 = lost_acts_deal site c L ev (acting ts) e2 [] next legs continued true may h1 two lost2 deals2

  lost4 : TalkLostIs site c last legs continued false (run_acted may h1)
  lost4 = lost_shuts_move site c e3 legs continued (run_acted may h1) two lost3

  deals4 : TalkDeals site c L ev (acts12 ++ Shut c NoMemory ∷ []) last [] (served may) next (run_acted may h1)
  deals4 =
      let s = lost4.spoken in
      conn_acts_deal site c L ev acts12 e3 [] (served may) next (run_acted may h1) (Shut c NoMemory) refl
      (greeted_unended site c last continued s.value s.request s.mapped s.greeted) deals3

  fit3 : TalkActsFit site c e2 (run_acting may h1)
  fit3 = lost_acts_come_in_form site c e2 legs continued true may h1 two lost2

  small : AreSmall acts12
  small = small_append (acting ts) (run_acting may h1) (talk_small ts) (path_small may h1 (run_acting may h1) (acting-due may h1).path)

  both : with_acts e1 acts12 ≡ e3
  both = sym (with_with e1 (acting ts) (run_acting may h1))

  left : Left site c e1 e3 legs continued v1.number
  left = subst (λ d. Left site c e1 d legs continued v1.number) both (small_leave site c legs continued v1.number acts12 e1 two small heard_first.spoken)

  live3 : is_live c (all_of e3) ≡ true
  live3 =
      let p = and_parts (list_any is_accepted (all_of e1)) (not (shut (all_of e1) c)) live_first in
      and_from _ _ (ap (λ d. list_any is_accepted (all_of d)) (sym both) ∙ acts_still is_accepted (λ act. refl) acts12 e1 ∙ p.0) (ap not left.shut_then ∙ p.1)

  each_then : (rule : Exchange → Act → Bool) → each_keeps rule e1 (acting ts) ≡ true → each_keeps rule e2 (run_acting may h1) ≡ true → each_keeps rule e3 (Shut c NoMemory ∷ []) ≡ true
      → each_keeps rule e1 (acts12 ++ Shut c NoMemory ∷ []) ≡ true
  each_then rule one two_then three =
      each_append rule acts12 (Shut c NoMemory ∷ []) e1
      ∙ and_from _ _ (each_append rule (acting ts) (run_acting may h1) e1 ∙ and_from _ _ one two_then) (ap (λ d. each_keeps rule d (Shut c NoMemory ∷ [])) both ∙ three)

  shut_last : shut (all_of last) c ≡ true
  shut_last = any_push (is_shut c) e3 (Out (Shut c NoMemory)) ∙ or_right (shut (all_of e3) c) (c == c) (eq-eqb c c refl)

  memory_last : shut_for_memory (all_of last) c ≡ true
  memory_last =
      any_push (is_shut_for_memory c) e3 (Out (Shut c NoMemory)) ∙ or_right (shut_for_memory (all_of e3) c) (c == c && true) (and_from _ _ (eq-eqb c c refl) refl)

  whys_are : whys_given c (acts12 ++ Shut c NoMemory ∷ []) ≡ NoMemory ∷ []
  whys_are =
      flat_map-append (whys_of c) acts12 (Shut c NoMemory ∷ []) ∙ ap (λ l. l ++ flat_map (whys_of c) (Shut c NoMemory ∷ [])) (small_whys c acts12 small)
      ∙ ap (λ b. (if b then NoMemory ∷ [] else []) ++ []) (eq-eqb c c refl)

  by_memory : (b x a m z : Bool) → b ≡ false → m ≡ true → (if b then x else a || m || z) ≡ true
  by_memory true x a m z p q = absurd (false≢true (sym p))
  by_memory false x a m z p q = or_left (a || m) z (or_right a m q)

  shuts_now : shuts site c (step_of L ev (acts12 ++ Shut c NoMemory ∷ [])) ≡ true
  shuts_now =
      by_memory (shut L c) _ _ (are_whys (whys_given c (acts12 ++ Shut c NoMemory ∷ [])) (NoMemory ∷ [])) _ open_before
      (ap (λ g. are_whys g (NoMemory ∷ [])) whys_are ∙ are_same-refl is_same_why is_same_why-refl (NoMemory ∷ []))

  loss_steps_on : LosesOn site c L ev legs continued (acts12 ++ Shut c NoMemory ∷ []) (run_acted may h1)
  loss_steps_on =
      loses_on site c L ev legs continued (acts12 ++ Shut c NoMemory ∷ []) may next two e1 last (run_acted may h1) (heard_at site c L ev) v1.number heard_first.spoken
      (first_at site c L ev legs continued v1.number heard_first.spoken) lost4 deals4 (dead_by c (all_of last) shut_last) memory_last
      (unwritten_append c acts12 (Shut c NoMemory ∷ []) (unwritten_append c (acting ts) (run_acting may h1) sd.fit.unwritten fit3.unwritten) (refl, tt))
      (each_then comes_in_form sd.fit.in_form fit3.in_form (and_from _ _ live3 refl)) (each_then (is_right_start site c) sd.fit.starts fit3.starts refl)
      (each_then (is_right_talk_act site c) sd.fit.talk_acts fit3.talk_acts refl) (each_then (begins_in_turn site c) sd.fit.in_turn fit3.in_turn refl)
      (ap (rises 0) (append_assoc (acting ts) (run_acting may h1) (Shut c NoMemory ∷ [])) ∙ talk_acts_rise may ts h1 (Shut c NoMemory ∷ []) refl)
      shuts_now (count_by-push (λ act. is_want_client c (Out act)) acts12 (Shut c NoMemory) ∙ ap (λ n. n + 0) (small_asks c 0 acts12 small))
      (λ free. absurd (false≢true (sym (takes_some site c (acts12 ++ Shut c NoMemory ∷ []) L t ev takes) ∙ free))) shut_last

pub loss_steps_are_good : LossStepsAreGood
loss_steps_are_good site c L ev legs continued said may t v next two is rest fits fresh accepted open_before takes =
    loss_steps_on site c L ev legs continued said may t v next two is rest fits fresh accepted open_before takes
