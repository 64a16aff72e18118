-- The Start of a WebSocket's program, after the Upgrade: the talk begins.
use Rattle.std.proofs.Common.{◌≡◌, ◌≤◌, ℕ, ◌+◌, Bool, true, false, not, ◌&&◌, ◌||◌, List, [], ◌∷◌, ◌++◌, map, Some, None, refl, sym, ap, ◌∙◌, arith}
use Rattle.std.specs.Prelude.{if◌then◌else◌}
use Rattle.std.specs.List.{list_any}
use Rattle.std.proofs.lemmas.Bool.{and_right, false≢true, false_from_ne_true, or_left, or_right}
use Rattle.host_base.specs.declared.launch.Launch.{Launch}
use Rattle.host_base.specs.declared.request.Request.{Request}
use Rattle.host_base.specs.declared.site.ScriptKind.TheVariants.{WebSocket}
use Rattle.host_base.specs.declared.site.Site.{Site}
use Rattle.host_trace.specs.declared.items.Act.{Act}
use Rattle.host_trace.specs.declared.items.Act.TheVariants.{Start}
use Rattle.host_trace.specs.declared.items.Event.{Event}
use Rattle.host_trace.specs.declared.items.Item.{Item}
use Rattle.host_trace.specs.declared.items.Item.TheVariants.{In, Out}
use Rattle.host_trace.specs.declared.items.Why.TheVariants.{Gone, NoMemory, Stopped}
use Rattle.host_trace.specs.Kinds.{is_accepted, is_client_gone, is_no_room, is_start, is_stop, is_ws_bad, names_child}
use Rattle.host_trace.specs.Projections.{client_wanted, stopped}
use Rattle.child_core.specs.View.{begun as run_begun}
use Rattle.child_core.proofs.WordLaws.{none, start_names}
use Rattle.trace_model.specs.Demands.{has_room, is_live, must_hear}
use Rattle.trace_model.specs.Exchange.{Exchange, all_of, pushed}
use Rattle.trace_model.specs.Legs.{Leg, leg_of}
use Rattle.trace_model.specs.Shuts.{is_gone, why_due}
use Rattle.trace_model.proofs.ExchangeLaws.{current-append}
use Rattle.child_laws.specs.Step.{begun}
use Rattle.child_laws.proofs.DealtLaws.{unstarted_rests}
use Rattle.http_step_laws.specs.Standing.{IsRight}
use Rattle.talk_core.specs.View.{begun as talk_begun}
use Rattle.talk_laws.specs.Deals.{TalkDeals}
use Rattle.talk_laws.specs.Http.{is_parting}
use Rattle.talk_laws.specs.Rules.{KeepsTalkRules, TalkSaysDemands}
use Rattle.talk_laws.specs.TalkIs.{TalkIs, TalkRests}
use Rattle.talk_laws.proofs.EndLaws.{talks_end_well}
use Rattle.talk_laws.proofs.GreetedLaws.{greeted_unended}
use Rattle.talk_laws.proofs.JoinLaws.{any_wider}
use Rattle.talk_laws.proofs.ListLaws.{any_still}
use Rattle.talk_laws.proofs.OpeningLaws.{openings_start_right}
use Rattle.talk_laws.proofs.RuleLaws.{spoken_keep_http_rules, unasked}
use Rattle.talk_laws.proofs.StartLaws.{talks_start}
use Rattle.talk_laws.proofs.StepLaws.{talk_starts_deal}
use Rattle.talk_laws.proofs.TalkLaws.{rests_keep_talks, talks_say_demands}
use Rattle.good_step_laws.proofs.Opens.GreetWords.{Ends, Greeted}
use Rattle.good_step_laws.proofs.Opens.StepLaws.{KeepsEnd}

or_middle : (a b e : Bool) → (b || e) ≡ true → (a || b || e) ≡ true
or_middle a true e is = or_left (a || true) e (or_right a true refl)
or_middle a false e is = or_right (a || false) e is

-- the connection is live, not too much waits to be sent, and no reason is there to shut it
none_due : (stopped_now gone full : Bool) → stopped_now ≡ false → gone ≡ false → full ≡ false
    → (if stopped_now then Some Stopped else (if gone then Some Gone else (if full then Some NoMemory else None))) ≡ None
none_due stopped_now gone full a b d = rw (a, b, d) refl

module _ (site : Site) (c : ℕ) (L : List Item) (ev : Event) (acts : List Act) (e : Exchange) (n : ℕ) (continued : Bool) (launch : Launch) (g : Greeted site c L ev acts e n continued launch true) where
  abbrev act : Act
  act = Start n c e.number 0 launch

  abbrev later : Exchange
  later = pushed e (Out (Start n c e.number 0 launch))

  abbrev all : List Act
  all = acts ++ Start n c e.number 0 launch ∷ []

  unnamed : list_any (names_child n) (all_of e) ≡ false
  unnamed = g.deals.knows.fresh n (omega arith)

  pub start_right : IsRight site c e (Start n c e.number 0 launch)
  start_right = record {
    start = openings_start_right site c e [] continued launch n g.opening;
    in_turn = refl;
    upgrade = refl;
    may = ap not (none (is_start n) n (all_of e) (start_names n) unnamed);
  }

  -- ---- the talk

  pub talked : (request : Request) × TalkIs site c later (leg_of 0 WebSocket request n ∷ []) continued (talk_begun c n site.limits.ws_text) (run_begun n WebSocket site.limits)
  talked = talks_start site c e [] continued launch n g.two g.opening unnamed

  abbrev pub start_legs : List Leg
  start_legs = leg_of 0 WebSocket talked.0 n ∷ []

  pub start_talks : TalkIs site c later start_legs continued (talk_begun c n site.limits.ws_text) (run_begun n WebSocket site.limits)
  start_talks = talked.1

  pub start_rests : TalkRests c later (talk_begun c n site.limits.ws_text) (run_begun n WebSocket site.limits)
  start_rests = record {
    texts = refl;
    code = refl;
    may = true;
    rests = unstarted_rests true (run_begun n WebSocket site.limits) refl;
    over_shut = λ over. absurd (false≢true over);
  }

  dealt : TalkDeals site c L ev all later g.over begun (n + 1) (run_begun n WebSocket site.limits)
  dealt = talk_starts_deal site c L ev acts e g.over g.turn n [] continued launch g.two g.opening g.deals

  pub start_fresh : (k : ℕ) → n + 1 ≤ k → list_any (names_child k) (all_of later) ≡ false
  start_fresh = dealt.fresh

  -- ---- what stands at the end

  staying : list_any (is_parting c) (all_of later) ≡ false
  staying = any_still (is_parting c) e (Out act) refl ∙ g.opening.staying

  none_of : (test : Item → Bool) → ((x : Item) → test x ≡ true → is_parting c x ≡ true) → list_any test (all_of later) ≡ false
  none_of test parts =
      false_from_ne_true (list_any test (all_of later)) (λ some. false≢true (sym staying ∙ any_wider test (is_parting c) parts (all_of later) some))

  unstopped : stopped (all_of later) ≡ false
  unstopped = none_of is_stop (λ x is.
      or_left (is_stop x || is_client_gone c x || is_ws_bad c x) (is_no_room c x)
      (or_left (is_stop x || is_client_gone c x) (is_ws_bad c x) (or_left (is_stop x) (is_client_gone c x) is)))

  here : is_gone c (all_of later) ≡ false
  here = none_of (λ x. is_client_gone c x || is_ws_bad c x) (λ x is.
      or_left (is_stop x || is_client_gone c x || is_ws_bad c x) (is_no_room c x) (or_middle (is_stop x) (is_client_gone c x) (is_ws_bad c x) is))

  pub start_unroomed : list_any (is_no_room c) (all_of later) ≡ false
  start_unroomed = none_of (is_no_room c) (λ x is. or_right (is_stop x || is_client_gone c x || is_ws_bad c x) (is_no_room c x) is)

  pub start_accepted : list_any is_accepted (all_of later) ≡ true
  start_accepted = any_still is_accepted e (Out act) refl ∙ g.accepted

  demands : TalkSaysDemands site c later (talk_begun c n site.limits.ws_text) (run_begun n WebSocket site.limits)
  demands = talks_say_demands site c later start_legs continued (talk_begun c n site.limits.ws_text) (run_begun n WebSocket site.limits) start_talks

  pub start_unasked : must_hear site c later ≡ false
  start_unasked = demands.hears_then ∙ and_right (is_live c (all_of later) && has_room c (all_of later)) false refl

  pub start_stays : why_due site c later ≡ None
  start_stays =
      demands.why_then
      ∙ (ap
      (λ (b : Bool).
      if not b then None
      else (if stopped (all_of later) then Some Stopped else (if is_gone c (all_of later) then Some Gone else (if list_any (is_no_room c) (all_of later) then Some NoMemory else None))))
      start_accepted
      ∙ none_due (stopped (all_of later)) (is_gone c (all_of later)) (list_any (is_no_room c) (all_of later)) unstopped here start_unroomed)

  at_end : KeepsEnd site c later
  at_end =
      let rules : KeepsTalkRules site c later = rests_keep_talks site c later start_legs continued (talk_begun c n site.limits.ws_text) (run_begun n WebSocket site.limits) start_talks start_rests in
      record {
        http = spoken_keep_http_rules site c later start_legs continued n start_talks.spoken;
        talks_then = rules.talks_then;
        says_then = rules.says_then;
        hears_then = unasked (must_hear site c later) (client_wanted (all_of later) c) start_unasked;
        stops_then = unasked (stopped (all_of later)) (not (is_live c (all_of later))) unstopped;
      }

  pub start_ends : Ends site c L ev (acts ++ Start n c e.number 0 launch ∷ []) (pushed e (Out (Start n c e.number 0 launch)))
  start_ends =
      let s = start_talks.spoken in
      record {
        now = current-append site c L (In ev ∷ map Out all) ∙ dealt.goes_on;
        unended = greeted_unended site c later continued s.value s.request s.mapped s.greeted;
        at_end = at_end;
        children =
            (talks_end_well site c L ev all later g.over begun (n + 1) start_legs continued (run_begun n WebSocket site.limits) dealt tt).talks (talk_begun c n site.limits.ws_text) start_talks;
      }
