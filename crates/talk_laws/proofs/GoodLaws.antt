-- A whole step of a connection whose talk goes on or is over keeps all rules.
use Rattle.std.proofs.Common.{◌≡◌, ◌≤◌, ℕ, Bool, true, false, List, [], ◌∷◌, ◌++◌, map, refl, sym, ap, subst, ◌∙◌, append_assoc}
use Rattle.std.specs.Prelude.{◌&&◌, ◌||◌, ◌==◌, not, if◌then◌else◌}
use Rattle.std.specs.List.{list_all, list_any}
use Rattle.std.proofs.lemmas.Bool.{and_from}
use Rattle.std.proofs.lemmas.List.Folds.{list_any-append}
use Rattle.host_base.specs.declared.site.Site.{Site}
use Rattle.host_trace.specs.declared.items.Act.{Act}
use Rattle.host_trace.specs.declared.items.Event.{Event}
use Rattle.host_trace.specs.declared.items.Item.{Item}
use Rattle.host_trace.specs.declared.items.Item.TheVariants.{In, Out}
use Rattle.host_trace.specs.Kinds.{is_accepted, is_no_room, is_shut, is_want_client, names_child}
use Rattle.host_trace.specs.Projections.{client_wanted, shut}
use Rattle.host_trace.specs.Trace.{after_step, step_of}
use Rattle.own_traces.specs.OwnFits.{fits_own}
use Rattle.trace_child.specs.Words.{given, once}
use Rattle.trace_model.specs.Answers.{answers, begins_in_turn}
use Rattle.trace_model.specs.Begins.{begins}
use Rattle.trace_model.specs.Continues.{continues_then}
use Rattle.trace_model.specs.Demands.{has_room, is_live, must_hear}
use Rattle.trace_model.specs.Exchange.{Exchange, all_of, pushed}
use Rattle.trace_model.specs.Exchanges.{current}
use Rattle.trace_model.specs.Form.{comes_in_form, is_ordered}
use Rattle.trace_model.specs.Good.{IsGood, IsReady}
use Rattle.trace_model.specs.Hears.{hears}
use Rattle.trace_model.specs.Hops.{hops}
use Rattle.trace_model.specs.Launches.{is_right_start}
use Rattle.trace_model.specs.Legs.{Leg}
use Rattle.trace_model.specs.Replies.{is_silent_once_closed, replies}
use Rattle.trace_model.specs.Says.{says}
use Rattle.trace_model.specs.Shuts.{are_whys, why_due, whys_due, whys_given}
use Rattle.trace_model.specs.Steps.{each_act_from}
use Rattle.trace_model.specs.Stops.{stops}
use Rattle.trace_model.specs.Streams.{begins_no_sooner, streams}
use Rattle.trace_model.specs.TakesNoMemory.{is_shut_act, takes_none}
use Rattle.trace_model.specs.Talks.{is_right_talk_act, talks, upgrades}
use Rattle.trace_model.proofs.ExchangeLaws.{all_of-current, current-append}
use Rattle.child_core.specs.Due.{acted as run_acted, acting as run_acting}
use Rattle.child_core.specs.View.{View as Run}
use Rattle.child_core.proofs.ActLaws.{acted-rest}
use Rattle.child_core.proofs.MemoryLaws.{acting-due}
use Rattle.child_laws.specs.Laws.{with_acts}
use Rattle.child_laws.specs.Step.{served, waiting}
use Rattle.talk_core.specs.Acting.{acted, acting}
use Rattle.talk_core.specs.Hearing.{heard, heard_unless, run_heard}
use Rattle.talk_core.specs.View.{View as Talk}
use Rattle.talk_laws.specs.Deals.{TalkDeals}
use Rattle.talk_laws.specs.Form.{ActsComeOn, AreUnwritten, TalkActsFit, each_keeps, rises}
use Rattle.talk_laws.specs.Rules.{KeepsHttpRules, KeepsTalkRules, why_at}
use Rattle.talk_laws.specs.Steps.{StepsOn, TalkStepsAreGood, served_by, tail_at, talk_after}
use Rattle.talk_laws.specs.TalkIs.{TalkIs, TalkRests}
use Rattle.talk_laws.proofs.ActLaws.{AreSmall, Left, child_acts_move, path_small, small_leave, talk_acts_move, talk_small}
use Rattle.talk_laws.proofs.DealLaws.{talk_acts_deal}
use Rattle.talk_laws.proofs.EndLaws.{talks_end_well}
use Rattle.talk_laws.proofs.FormLaws.{child_acts_come_in_form, talk_acts_come_in_form}
use Rattle.talk_laws.proofs.HearLaws.{events_keep_talks, shut_within}
use Rattle.talk_laws.proofs.JoinLaws.{acts_still, each_append, small_append, unwritten_append, with_with}
use Rattle.talk_laws.proofs.ListLaws.{any_still}
use Rattle.talk_laws.proofs.LossEndLaws.{first_at, heard_at}
use Rattle.talk_laws.proofs.OrderLaws.{greeted_come_on, talk_acts_rise}
use Rattle.talk_laws.proofs.RuleLaws.{implied, spoken_keep_http_rules}
use Rattle.talk_laws.proofs.ServeLaws.{child_acts_deal}
use Rattle.talk_laws.proofs.StepLaws.{talk_events_begin}
use Rattle.talk_laws.proofs.TailLaws.{TailIs, tail_is}
use Rattle.talk_laws.proofs.TalkLaws.{rests_keep_talks}
use Rattle.talk_laws.proofs.WhyLaws.{live_shut, shuts_from}

module _ (site : Site) (c : ℕ) (L : List Item) (ev : Event) (legs : List Leg) (continued : Bool) (t : Talk) (v : Run) (may : Bool) (next : ℕ) (two : 2 ≤ site.limits.head)
    (is : TalkIs site c (current site c L) legs continued t v) (rest : TalkRests c (current site c L) t v) (fits : fits_own site.limits.children L ev ≡ true)
    (fresh : (k : ℕ) → next ≤ k → list_any (names_child k) L ≡ false) (accepted : list_any is_accepted L ≡ true) (found : list_any (is_no_room c) (L ++ In ev ∷ []) ≡ false) where
  abbrev e0 : Exchange
  e0 = current site c L

  abbrev e1 : Exchange
  e1 = pushed (current site c L) (In ev)

  abbrev t1 : Talk
  t1 = heard t v ev

  abbrev v1 : Run
  v1 = run_heard t v ev

  abbrev e2 : Exchange
  e2 = with_acts (pushed (current site c L) (In ev)) (acting (heard t v ev))

  abbrev e3 : Exchange
  e3 = served_by (current site c L) ev t v may

  abbrev v2 : Run
  v2 = run_acted may (run_heard t v ev)

  abbrev acts12 : List Act
  acts12 = acting (heard t v ev) ++ run_acting may (run_heard t v ev)

  heard_first : TalkIs site c e1 legs continued t1 v1
  heard_first = events_keep_talks site c e0 legs continued t v ev two is rest (ap (λ l. fits_own site.limits.children l ev) (all_of-current site c L) ∙ fits)

  said_then : TalkIs site c e2 legs continued (acted t1) v1
  said_then = talk_acts_move site c e1 legs continued t1 v1 two heard_first

  served_then : TalkIs site c e3 legs continued (acted t1) v2
  served_then = child_acts_move site c e2 legs continued may (acted t1) v1 two said_then

  dealt : TalkDeals site c L ev acts12 e3 [] (served may) next v2
  dealt =
      child_acts_deal site c L ev (acting t1) e2 [] next legs continued may (acted t1) v1 two said_then
      (talk_acts_deal site c L ev [] e1 [] waiting next legs continued t1 v1 two heard_first (talk_events_begin site c L ev legs continued t v next two fits is rest fresh))

  small : AreSmall acts12
  small = small_append (acting t1) (run_acting may v1) (talk_small t1) (path_small may v1 (run_acting may v1) (acting-due may v1).path)

  both : with_acts e1 acts12 ≡ e3
  both = sym (with_with e1 (acting t1) (run_acting may v1))

  left : Left site c e1 e3 legs continued v1.number
  left = subst (λ d. Left site c e1 d legs continued v1.number) both (small_leave site c legs continued v1.number acts12 e1 two small heard_first.spoken)

  heard_is : all_of e1 ≡ L ++ In ev ∷ []
  heard_is = heard_at site c L ev

  still : (test : Item → Bool) → ((act : Act) → test (Out act) ≡ false) → list_any test (all_of e3) ≡ list_any test (L ++ In ev ∷ [])
  still test none = ap (λ d. list_any test (all_of d)) (sym both) ∙ acts_still test none acts12 e1 ∙ ap (list_any test) heard_is

  accepted_then : list_any is_accepted (all_of e3) ≡ true
  accepted_then =
      still is_accepted (λ act. refl) ∙ list_any-append is_accepted L (In ev ∷ []) ∙ ap (λ b. b || list_any is_accepted (In ev ∷ [])) accepted

  shut_then : shut (all_of e3) c ≡ shut L c
  shut_then = left.shut_then ∙ any_still (is_shut c) e0 (In ev) refl ∙ ap (λ l. shut l c) (all_of-current site c L)

  tail : TailIs site c L ev legs continued may next e1 e3 acts12 (tail_at c e3 (acted t1) v2) v2 (talk_after c e0 ev t v may)
  tail =
      tail_is site c L ev legs continued may next two e1 e3 acts12 v2 (acted t1) served_then dealt small (acted-rest may v1) refl refl accepted_then
      (still (is_no_room c) (λ act. refl) ∙ found) shut_then left.wanted (is_live c (all_of e3)) refl (why_at c (all_of e3) (acted t1).over) refl _ refl

  -- rules on acts, act by act
  abbrev tail_acts : List Act
  tail_acts = tail_at c e3 (acted t1) v2

  accepted_first : list_any is_accepted (all_of e1) ≡ true
  accepted_first =
      ap (list_any is_accepted) heard_is ∙ list_any-append is_accepted L (In ev ∷ []) ∙ ap (λ b. b || list_any is_accepted (In ev ∷ [])) accepted

  -- nothing is said for a connection that is shut
  nothing_said : is_live c (all_of e1) ≡ false → acting t1 ≡ []
  nothing_said dead =
      let shut_first : shut (all_of e1) c ≡ true = live_shut (list_any is_accepted (all_of e1)) (shut (all_of e1) c) accepted_first dead in
      let inner : shut e0.items c ≡ true =
      sym (shut_within site c e0 legs continued v.number is.spoken) ∙ sym (any_still (is_shut c) e0 (In ev) refl) ∙ shut_first in
      let over : t.over ≡ true = is.stands.talk.shut_over inner in
      ap (λ b. acting (heard_unless b t v ev)) over ∙ rw (rest.texts, rest.code) refl

  said_fits : TalkActsFit site c e1 (acting t1)
  said_fits = by_live (is_live c (all_of e1)) refl
    where
      by_live : (b : Bool) → is_live c (all_of e1) ≡ b → TalkActsFit site c e1 (acting t1)
      by_live true live = talk_acts_come_in_form site c e1 legs continued t1 v1 two live heard_first
      by_live false dead =
          subst (TalkActsFit site c e1) (sym (nothing_said dead)) (record { unwritten = tt; in_form = refl; starts = refl; talk_acts = refl; in_turn = refl })

  child_fits : TalkActsFit site c e2 (run_acting may v1)
  child_fits = child_acts_come_in_form site c e2 legs continued may (acted t1) v1 two said_then

  each_then : (rule : Exchange → Act → Bool) → each_keeps rule e1 (acting t1) ≡ true → each_keeps rule e2 (run_acting may v1) ≡ true → each_keeps rule e3 tail_acts ≡ true
      → each_keeps rule e1 (acts12 ++ tail_acts) ≡ true
  each_then rule first second third =
      each_append rule acts12 tail_acts e1
      ∙ and_from _ _ (each_append rule (acting t1) (run_acting may v1) e1 ∙ and_from _ _ first second) (ap (λ d. each_keeps rule d tail_acts) both ∙ third)

  unwritten : AreUnwritten c tail.acts
  unwritten =
      subst (AreUnwritten c) tail.acts_are
      (unwritten_append c acts12 tail_acts (unwritten_append c (acting t1) (run_acting may v1) said_fits.unwritten child_fits.unwritten) tail.unwritten)

  comes_on : ActsComeOn site c e1 tail.acts
  comes_on =
      let s = heard_first.spoken in
      greeted_come_on site c e1 continued s.value s.request s.mapped tail.acts two unwritten s.greeted

  first_is : current site c (L ++ In ev ∷ []) ≡ e1
  first_is = first_at site c L ev legs continued v1.number heard_first.spoken

  each_rule : (rule : Exchange → Act → Bool) → each_keeps rule e1 (acts12 ++ tail_acts) ≡ true → each_act_from site c rule (current site c (L ++ In ev ∷ [])) tail.acts ≡ true
  each_rule rule kept =
      ap (λ d. each_act_from site c rule d tail.acts) first_is ∙ comes_on.each rule ∙ ap (each_keeps rule e1) (sym tail.acts_are) ∙ kept

  now : current site c (after_step L ev tail.acts) ≡ tail.last
  now = current-append site c L (In ev ∷ map Out tail.acts) ∙ tail.deals.goes_on

  at_end : (rule : Exchange → Bool) → rule tail.last ≡ true → rule (current site c (after_step L ev tail.acts)) ≡ true
  at_end rule is_so = ap rule now ∙ is_so

  http : KeepsHttpRules site c tail.last
  http = spoken_keep_http_rules site c tail.last legs continued v2.number tail.talk.spoken

  talked : KeepsTalkRules site c tail.last
  talked = rests_keep_talks site c tail.last legs continued (talk_after c e0 ev t v may) v2 tail.talk tail.rests

  is_good : IsGood site c (step_of L ev tail.acts)
  is_good = record {
    replies = at_end (replies site c) http.replies_then;
    replies_end =
        ap (λ es. list_all (is_silent_once_closed c) (es ++ current site c (after_step L ev tail.acts) ∷ [])) tail.deals.gone
        ∙ and_from _ _ (at_end (is_silent_once_closed c) http.silent) refl;
    launches = each_rule (is_right_start site c) (each_then (is_right_start site c) said_fits.starts child_fits.starts tail.starts);
    talk_acts = each_rule (is_right_talk_act site c) (each_then (is_right_talk_act site c) said_fits.talk_acts child_fits.talk_acts tail.talk_acts);
    upgrades = at_end (upgrades site c) http.upgrades_then;
    talks = at_end (talks site c) talked.talks_then;
    shuts =
        shuts_from (shut L c) _ _ _ _
        (ap (λ d. if shut L c then are_whys (whys_given c tail.acts) [] else are_whys (whys_given c tail.acts) (whys_due (why_due site c d))) now ∙ tail.whys);
    wants =
        ap (λ d. given (is_want_client c) tail.acts == once (must_hear site c d && not (client_wanted (L ++ In ev ∷ []) c))) now
        ∙ ap (λ l. given (is_want_client c) tail.acts == once (must_hear site c tail.last && not (client_wanted l c))) (sym heard_is) ∙ tail.asks;
    form = each_rule comes_in_form (each_then comes_in_form said_fits.in_form child_fits.in_form tail.form);
    order =
        ap (λ d. is_ordered site c d 0 tail.acts) first_is ∙ comes_on.order 0
        ∙ ap (rises 0) (sym tail.acts_are ∙ append_assoc (acting t1) (run_acting may v1) tail_acts) ∙ talk_acts_rise may t1 v1 tail_acts tail.rise;
  }

  is_ready : IsReady site c (step_of L ev tail.acts)
  is_ready = record {
    begins = at_end (begins site c) http.begins_then;
    answers = at_end (answers site c) http.answers_then;
    in_turn = each_rule (begins_in_turn site c) (each_then (begins_in_turn site c) said_fits.in_turn child_fits.in_turn tail.in_turn);
    hops = at_end (hops site c) http.hops_then;
    hears = at_end (hears site c) tail.hears_then;
    continues = at_end (continues_then site c) http.continues_then;
    says = at_end (says site c) talked.says_then;
    stops = at_end (stops c) tail.stops_then;
    streams = at_end (streams site c) http.streams_then;
    no_sooner = at_end (begins_no_sooner site c) http.no_sooner;
    takes_no_memory = implied (takes_none site c (step_of L ev tail.acts) ev) (not (list_any (is_shut_act c) tail.acts)) (ap not tail.kept);
  }

  steps_on : may ≡ has_room c (after_step L ev (acts12 ++ tail_acts)) → StepsOn site c L ev legs continued (acts12 ++ tail_acts) (talk_after c e0 ev t v may) v2
  steps_on may_is =
      subst (λ l. StepsOn site c L ev legs continued l (talk_after c e0 ev t v may) v2) (sym tail.acts_are) (record {
        good = record {
          good = is_good;
          ready = is_ready;
          children =
              (talks_end_well site c L ev tail.acts tail.last [] (served may) next legs continued v2 tail.deals
              (λ undecided unsettled. may_is ∙ ap (λ l. has_room c (after_step L ev l)) tail.acts_are)).talks (talk_after c e0 ev t v may) tail.talk;
        };
        talk = subst (λ d. TalkIs site c d legs continued (talk_after c e0 ev t v may) v2) (sym now) tail.talk;
        rests = subst (λ d. TalkRests c d (talk_after c e0 ev t v may) v2) (sym now) tail.rests;
      })

pub talk_steps_are_good : TalkStepsAreGood
talk_steps_are_good site c L ev legs continued t v may next two is rest fits fresh accepted found may_is =
    steps_on site c L ev legs continued t v may next two is rest fits fresh accepted found may_is
