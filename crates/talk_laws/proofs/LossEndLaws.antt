-- At the end of a step of a connection for whose WebSocket memory is or was wanting all rules hold.
use Rattle.std.proofs.Common.{◌≡◌, ◌≤◌, ℕ, Bool, true, false, List, [], ◌∷◌, ◌++◌, map, refl, sym, ap, subst, ◌∙◌}
use Rattle.std.specs.Prelude.{◌&&◌, ◌==◌, not}
use Rattle.std.specs.List.{list_all, list_any}
use Rattle.std.proofs.lemmas.Bool.{and_from, false≢true}
use Rattle.host_base.specs.declared.site.Site.{Site}
use Rattle.host_trace.specs.declared.items.Act.{Act}
use Rattle.host_trace.specs.declared.items.Event.{Event}
use Rattle.host_trace.specs.declared.items.Item.{Item}
use Rattle.host_trace.specs.declared.items.Item.TheVariants.{In, Out}
use Rattle.host_trace.specs.Kinds.{is_accepted, is_want_client}
use Rattle.host_trace.specs.Projections.{client_wanted, shut, shut_for_memory, stopped}
use Rattle.host_trace.specs.Trace.{after_step, step_of}
use Rattle.trace_child.specs.Words.{given, implies, once}
use Rattle.trace_model.specs.Answers.{answers, begins_in_turn}
use Rattle.trace_model.specs.Begins.{begins}
use Rattle.trace_model.specs.Continues.{continues_then}
use Rattle.trace_model.specs.Demands.{is_live, must_hear}
use Rattle.trace_model.specs.Exchange.{Exchange, all_of, pushed}
use Rattle.trace_model.specs.Exchanges.{current, next_by}
use Rattle.trace_model.specs.Form.{comes_in_form, is_ordered}
use Rattle.trace_model.specs.Good.{IsGood, IsReady}
use Rattle.trace_model.specs.Hears.{hears}
use Rattle.trace_model.specs.Hops.{hops}
use Rattle.trace_model.specs.Launches.{is_right_start}
use Rattle.trace_model.specs.Legs.{Leg}
use Rattle.trace_model.specs.Replies.{is_silent_once_closed, replies}
use Rattle.trace_model.specs.Says.{says}
use Rattle.trace_model.specs.Shuts.{shuts}
use Rattle.trace_model.specs.Steps.{each_act_from}
use Rattle.trace_model.specs.Stops.{stops}
use Rattle.trace_model.specs.Streams.{begins_no_sooner, streams}
use Rattle.trace_model.specs.TakesNoMemory.{is_shut_act, takes_none}
use Rattle.trace_model.specs.Talks.{is_right_talk_act, talks, upgrades}
use Rattle.trace_model.proofs.ExchangeLaws.{all_of-current, current-append, current-push}
use Rattle.exchange_laws.proofs.AskLaws.{shut_asks}
use Rattle.child_core.specs.View.{View as Run}
use Rattle.child_core.proofs.ActLaws.{and_false}
use Rattle.child_laws.specs.Step.{served}
use Rattle.talk_laws.specs.Deals.{TalkDeals}
use Rattle.talk_laws.specs.Form.{ActsComeOn, AreUnwritten, each_keeps, rises}
use Rattle.talk_laws.specs.LostSteps.{LosesOn}
use Rattle.talk_laws.specs.Rules.{KeepsHttpRules, KeepsTalkRules}
use Rattle.talk_laws.specs.TalkIs.{IsSpoken, TalkLostIs}
use Rattle.talk_laws.proofs.EndLaws.{talks_end_well}
use Rattle.talk_laws.proofs.GreetedLaws.{greeted_unended}
use Rattle.talk_laws.proofs.ListLaws.{all_push}
use Rattle.talk_laws.proofs.OrderLaws.{greeted_come_on}
use Rattle.talk_laws.proofs.RuleLaws.{implied, spoken_keep_http_rules, unasked}
use Rattle.talk_laws.proofs.TalkLaws.{losses_keep_talks}

module _ (site : Site) (c : ℕ) (L : List Item) (ev : Event) (legs : List Leg) (continued : Bool) (acts : List Act) (may : Bool) (next : ℕ) (two : 2 ≤ site.limits.head) (e1 last : Exchange) (held : Run)
    (heard_is : all_of e1 ≡ L ++ In ev ∷ []) (k : ℕ) (first : IsSpoken site c e1 legs continued k) (first_is : current site c (L ++ In ev ∷ []) ≡ e1)
    (talk : TalkLostIs site c last legs continued false held) (deals : TalkDeals site c L ev acts last [] (served may) next held)
    (dead : is_live c (all_of last) ≡ false) (memory : shut_for_memory (all_of last) c ≡ true) (unwritten : AreUnwritten c acts)
    (form : each_keeps comes_in_form e1 acts ≡ true) (starts : each_keeps (is_right_start site c) e1 acts ≡ true) (talk_acts : each_keeps (is_right_talk_act site c) e1 acts ≡ true)
    (turns : each_keeps (begins_in_turn site c) e1 acts ≡ true) (rise : rises 0 acts ≡ true) (shuts_now : shuts site c (step_of L ev acts) ≡ true)
    (none_asked : given (is_want_client c) acts ≡ 0) (free : takes_none site c (step_of L ev acts) ev ≡ true → list_any (is_shut_act c) acts ≡ false) where
  now : current site c (after_step L ev acts) ≡ last
  now = current-append site c L (In ev ∷ map Out acts) ∙ deals.goes_on

  at_end : (rule : Exchange → Bool) → rule last ≡ true → rule (current site c (after_step L ev acts)) ≡ true
  at_end rule is_so = ap rule now ∙ is_so

  comes_on : ActsComeOn site c e1 acts
  comes_on = greeted_come_on site c e1 continued first.value first.request first.mapped acts two unwritten first.greeted

  each_rule : (rule : Exchange → Act → Bool) → each_keeps rule e1 acts ≡ true → each_act_from site c rule (current site c (L ++ In ev ∷ [])) acts ≡ true
  each_rule rule kept = ap (λ d. each_act_from site c rule d acts) first_is ∙ comes_on.each rule ∙ kept

  number_is : held.number ≡ talk.view.number
  number_is = ap (λ (w : Run). w.number) talk.held_as

  http : KeepsHttpRules site c last
  http = spoken_keep_http_rules site c last legs continued talk.view.number talk.spoken

  talked : KeepsTalkRules site c last
  talked = losses_keep_talks site c last legs continued false held talk dead memory

  unheard : must_hear site c last ≡ false
  unheard = shut_asks site c last dead

  is_good : IsGood site c (step_of L ev acts)
  is_good = record {
    replies = at_end (replies site c) http.replies_then;
    replies_end =
        ap (λ es. list_all (is_silent_once_closed c) (es ++ current site c (after_step L ev acts) ∷ [])) deals.gone
        ∙ and_from _ _ (at_end (is_silent_once_closed c) http.silent) refl;
    launches = each_rule (is_right_start site c) starts;
    talk_acts = each_rule (is_right_talk_act site c) talk_acts;
    upgrades = at_end (upgrades site c) http.upgrades_then;
    talks = at_end (talks site c) talked.talks_then;
    shuts = shuts_now;
    wants =
        ap (λ d. given (is_want_client c) acts == once (must_hear site c d && not (client_wanted (L ++ In ev ∷ []) c))) now
        ∙ rw (none_asked, unheard) refl;
    form = each_rule comes_in_form form;
    order = ap (λ d. is_ordered site c d 0 acts) first_is ∙ comes_on.order 0 ∙ rise;
  }

  is_ready : IsReady site c (step_of L ev acts)
  is_ready = record {
    begins = at_end (begins site c) http.begins_then;
    answers = at_end (answers site c) http.answers_then;
    in_turn = each_rule (begins_in_turn site c) turns;
    hops = at_end (hops site c) http.hops_then;
    hears = at_end (hears site c) (unasked (must_hear site c last) (client_wanted (all_of last) c) unheard);
    continues = at_end (continues_then site c) http.continues_then;
    says = at_end (says site c) talked.says_then;
    stops = at_end (stops c) (implied (stopped (all_of last)) (not (is_live c (all_of last))) (ap not dead));
    streams = at_end (streams site c) http.streams_then;
    no_sooner = at_end (begins_no_sooner site c) http.no_sooner;
    takes_no_memory = by_free (takes_none site c (step_of L ev acts) ev) free;
  }
    where
      by_free : (b : Bool) → (b ≡ true → list_any (is_shut_act c) acts ≡ false) → implies b (not (list_any (is_shut_act c) acts)) ≡ true
      by_free true f = ap not (f refl)
      by_free false f = refl

  shut_is : shut (all_of last) c ≡ true → shut (after_step L ev acts) c ≡ true
  shut_is is_so = ap (λ l. shut l c) (sym (all_of-current site c (after_step L ev acts)) ∙ ap all_of now) ∙ is_so

  memory_is : shut_for_memory (after_step L ev acts) c ≡ true
  memory_is = ap (λ l. shut_for_memory l c) (sym (all_of-current site c (after_step L ev acts)) ∙ ap all_of now) ∙ memory

  pub loses_on : shut (all_of last) c ≡ true → LosesOn site c L ev legs continued acts held
  loses_on is_so = record {
    good = record {
      good = is_good;
      ready = is_ready;
      children =
          (talks_end_well site c L ev acts last [] (served may) next legs continued held deals
          (λ undecided unsettled. absurd (false≢true (sym undecided ∙ talk.decided)))).lost talk;
    };
    talk = subst (λ d. TalkLostIs site c d legs continued false held) (sym now) talk;
    shut_then = shut_is is_so;
    for_memory = memory_is;
  }

pub first_at : (site : Site) (c : ℕ) (L : List Item) (ev : Event) (legs : List Leg) (continued : Bool) (k : ℕ) → IsSpoken site c (pushed (current site c L) (In ev)) legs continued k
    → current site c (L ++ In ev ∷ []) ≡ pushed (current site c L) (In ev)
first_at site c L ev legs continued k s =
    current-push site c L (In ev)
    ∙ ap (next_by site c (pushed (current site c L) (In ev))) (greeted_unended site c (pushed (current site c L) (In ev)) continued s.value s.request s.mapped s.greeted)

pub heard_at : (site : Site) (c : ℕ) (L : List Item) (ev : Event) → all_of (pushed (current site c L) (In ev)) ≡ L ++ In ev ∷ []
heard_at site c L ev = all_push (current site c L) (In ev) ∙ ap (λ l. l ++ In ev ∷ []) (all_of-current site c L)

pub dead_by : (c : ℕ) (L : List Item) → shut L c ≡ true → is_live c L ≡ false
dead_by c L is = ap (λ b. list_any is_accepted L && not b) is ∙ and_false (list_any is_accepted L)
