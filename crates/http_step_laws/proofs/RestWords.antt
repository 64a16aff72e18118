-- What is known at the end of a step: the rules on what is written are kept, and those on the children.
use Rattle.std.proofs.Common.{◌≡◌, ℕ, Bool, true, false, ◌&&◌, ◌||◌, not, List, [], ◌∷◌, map, Option, Some, None, option_map, refl, sym, ap, ◌∙◌, subst, append_assoc}
use Rattle.std.proofs.lemmas.Bool.{and_from, and_parts, and_right, false≢true, false_from_ne_true, not-false, or_from}
use Rattle.host_trace.specs.declared.items.Act.{Act}
use Rattle.host_trace.specs.declared.items.Event.{Event}
use Rattle.host_trace.specs.declared.items.Item.{Item}
use Rattle.host_trace.specs.declared.items.Item.TheVariants.{In, Out}
use Rattle.host_trace.specs.Account.{has_unsettled}
use Rattle.host_trace.specs.Decider.{Outcome as Read}
use Rattle.host_trace.specs.Trace.{after_step, step_of}
use Rattle.trace_child.specs.Decided.{outcome_of}
use Rattle.child_core.specs.declared.ending.Outcome.{Outcome}
use Rattle.child_core.specs.declared.ending.Outcome.TheVariants as Ended
use Rattle.child_core.specs.Knows.{read}
use Rattle.child_core.specs.View.{View}
use Rattle.trace_model.specs.Children.{ChildrenGood}
use Rattle.trace_model.specs.Demands.{has_room as room_then, is_live as live_then, may_go_on}
use Rattle.trace_model.specs.Exchange.{Exchange, all_of, request_bytes}
use Rattle.trace_model.specs.Exchanges.{current, has_ended}
use Rattle.trace_model.specs.Legs.{Leg as Started, run_of}
use Rattle.exchange_request.specs.Knows.{is_looked_at}
use Rattle.exchange_reply.specs.StepRules.{is_continued}
use Rattle.exchange_stage.specs.declared.stage.Leg.{Leg}
use Rattle.exchange_stage.specs.declared.stage.Stage.{Stage}
use Rattle.exchange_stage.specs.declared.stage.Stage.TheVariants as At
use Rattle.exchange_laws.specs.Items.{is_unanswered}
use Rattle.exchange_laws.specs.OfRun.{is_cut_short}
use Rattle.exchange_laws.specs.Rules.{KeepsStepRules, Rests, RunRests}
use Rattle.exchange_laws.specs.StageIs.{StageIs}
use Rattle.exchange_laws.specs.Unanswered.{is_awaited}
use Rattle.exchange_laws.specs.Walked.{IsLast}
use Rattle.exchange_laws.proofs.RuleLaws.{rests_keep_rules}
use Rattle.exchange_laws.proofs.WholeLaws.{continues_stand}
use Rattle.conn_laws.proofs.FormLaws.{flags_say}
use Rattle.conn_flags.specs.View.{has_room, is_live}
use Rattle.host_trace.specs.Decider.{is_websocket}
use Rattle.child_core.specs.View.{is_other}
use Rattle.http_stage_laws.specs.Staged.{drops_of}
use Rattle.child_laws.specs.Children.{KnowsRuns, NoMore, is_over as is_settled_run}
use Rattle.child_laws.specs.Step.{Turn, begun, served, waiting}
use Rattle.child_laws.specs.Moves.{Deals, EndsAt}
use Rattle.child_laws.proofs.KnowLaws.{unsettled_exact}
use Rattle.child_laws.proofs.MoveLaws.{moves_end_well, moves_tell}
use Rattle.http_conn.specs.HttpConn.{HttpConn}
use Rattle.host_base.specs.declared.cause.Cause.{Cause}
use Rattle.http_conn.specs.Kept.{is_reading, flags_of, number_of, site_of}
use Rattle.http_conn.specs.Ready.{outcome_of_run}
use Rattle.http_conn.specs.Reasons.{is_done_with}
use Rattle.http_conn.specs.Slot.{run_settled}
use Rattle.http_stage_laws.proofs.StagedLaws.{outcome_told}
use Rattle.http_stage_laws.specs.Inward.{CutBy, CutIs, is_left}
use Rattle.http_step_laws.specs.Standing.{EvenAt, QuietBy, RunQuiet, Standing, ends_at, is_early}
use Rattle.http_conn.specs.Tells.{goes_at, has_turn}
use Rattle.http_step_laws.proofs.CloseLaws.{Closed}
use Rattle.http_step_laws.proofs.EndWords.{Going, going, live_of}
use Rattle.http_step_laws.proofs.QuietWords.{quiet_goes_on}
use Rattle.http_step_laws.proofs.StageWords.{known, known_now, more_in, same_settled, stage_at, stage_is}

not_not : (b : Bool) → not (not b) ≡ true → b ≡ true
not_not true e = refl
not_not false e = e

even_ends : (room : Bool) (turn : Turn) (run : Option View) → EvenAt room turn run → EndsAt room turn run
even_ends room turn None e = tt
even_ends room waiting (Some v) e = absurd e
even_ends room begun (Some v) e = tt
even_ends room (served may) (Some v) e = e

module _ (L : List Item) (ev : Event) (acts : List Act) (turn : Turn) (e : Exchange) (conn : HttpConn) (n : ℕ) (s : Standing L ev acts turn n e conn) (c : Closed turn e conn) where
  pub on_now : has_ended (site_of conn) (number_of conn) e ≡ false
  on_now = quiet_goes_on L ev acts turn e conn n s c.rest.1

  pub items_are : all_of e ≡ after_step L ev acts
  items_are = s.children.knows.items ∙ append_assoc L (In ev ∷ []) (map Out acts)

  early_none : is_early conn ≡ false
  early_none = go conn.lost refl
    where
      go : (b : Bool) → conn.lost ≡ b → is_early conn ≡ false
      go false is = ap (λ (b : Bool). b && not (flags_of conn).shut) is
      go true is = and_right conn.lost (not (flags_of conn).shut) (ap not (c.shut_lost is))

  pub deals_now : Deals (site_of conn) (number_of conn) L ev acts e s.over false turn n s.legs conn.run
  deals_now = subst (λ (b : Bool). Deals (site_of conn) (number_of conn) L ev acts e s.over b turn n s.legs conn.run) early_none s.children

  -- the exchange is the one that goes on
  pub current_is : current (site_of conn) (number_of conn) (after_step L ev acts) ≡ e
  current_is = (moves_tell (site_of conn) (number_of conn) L ev acts e s.over false turn n s.legs conn.run deals_now).is on_now

  -- the rules on its children hold
  pub children_good : ChildrenGood (site_of conn) (number_of conn) (step_of L ev acts)
  children_good =
      moves_end_well (site_of conn) (number_of conn) L ev acts e s.over turn n s.legs conn.run on_now deals_now
      (subst (λ (b : Bool). EndsAt b turn conn.run) ((flags_say (flags_of conn) (all_of e) s.flags).room ∙ ap (λ (l : List Item). room_then (number_of conn) l) items_are)
      (even_ends (has_room (flags_of conn)) turn conn.run c.rest.2))

  live_same : live_then (number_of conn) (all_of e) ≡ is_live (flags_of conn)
  live_same = sym (flags_say (flags_of conn) (all_of e) s.flags).live

  -- ---- where memory was found

  module _ (found : conn.lost ≡ false) where
    abbrev quiet : QuietBy conn e conn.stage
    quiet = (c.rest.1.found found).quiet

    pub unawaited : is_unanswered conn.stage ≡ true → conn.continued ≡ false → is_awaited (site_of conn) (number_of conn) e ≡ false
    unawaited u first =
        false_from_ne_true (is_awaited (site_of conn) (number_of conn) e) (λ awaited.
        let was = (c.rest.1.found found).let_on u first awaited in
        let live : is_live (flags_of conn) ≡ true = live_of conn _ (going conn _ was.0) in
        waits conn.stage was.2 was.0 was.1 (c.still live))
      where
        waits : (t : Stage) → is_reading t ≡ true → ends_at conn e ≡ false → is_looked_at conn.request ≡ false
            → goes_at conn (is_done_with conn (request_bytes (number_of conn) e)) t ≡ false → ⊥
        waits At.Reading r on unread still = false≢true (sym still ∙ and_from (not (ends_at conn e)) (not (is_looked_at conn.request)) (ap not on) (ap not unread))
        waits _ r on unread still = false≢true r

    pub continued_end : is_continued (site_of conn) (number_of conn) e ≡ true
    continued_end =
        continues_stand (site_of conn) (number_of conn) e s.legs conn.continued (is_looked_at conn.request) (conn.closing || conn.closes) (more_in conn e s.legs (s.staged found)) conn.stage (stage_is conn e s.legs (s.staged found))
        unawaited

    dead : (ends_at conn e ≡ false → ⊥) → live_then (number_of conn) (all_of e) ≡ false
    dead never = live_same ∙ false_from_ne_true (is_live (flags_of conn)) (λ live. never (c.on live))

    turn_not : (is_live (flags_of conn) ≡ true → has_turn conn (is_done_with conn (request_bytes (number_of conn) e)) ≡ false)
        → (live_then (number_of conn) (all_of e) && may_go_on (number_of conn) e) ≡ false
    turn_not never = false_from_ne_true (live_then (number_of conn) (all_of e) && may_go_on (number_of conn) e) (λ both.
        let p = and_parts (live_then (number_of conn) (all_of e)) (may_go_on (number_of conn) e) both in
        let live : is_live (flags_of conn) ≡ true = sym live_same ∙ p.0 in
        let q = and_parts (room_then (number_of conn) (all_of e)) (not (has_unsettled e.items (number_of conn))) p.1 in
        let room : has_room (flags_of conn) ≡ true = (flags_say (flags_of conn) (all_of e) s.flags).room ∙ q.0 in
        let unsettled = unsettled_exact (site_of conn) (number_of conn) e (is_early conn) n s.legs conn.run (known_now L ev acts turn n e conn s) in
        let settled : run_settled conn.run ≡ true = sym (same_settled conn.run) ∙ not_not (is_settled_run conn.run) (sym (ap not unsettled) ∙ q.1) in
        let turn_now : has_turn conn (is_done_with conn (request_bytes (number_of conn) e)) ≡ true =
        and_from (not (ends_at conn e) && run_settled conn.run) (has_room (flags_of conn)) (and_from (not (ends_at conn e)) (run_settled conn.run) (ap not (c.on live)) settled) room in
        false≢true (sym (never live) ∙ turn_now))

    undropped : (run : Option View) → KnowsRuns NoMore (site_of conn) (number_of conn) e false s.legs run → outcome_of_run run ≡ None → drops_of run ≡ false
    undropped None k none = refl
    undropped (Some v) k none =
        or_from (is_websocket v.kind) (is_other v.outcome) (ap (λ (w : View). is_websocket w.kind) k.held_as ∙ k.known.plain) (ap is_other none)

    run_rests : (leg : Leg) (o : Option Outcome) → outcome_of_run conn.run ≡ o → RunQuiet conn e leg o → RunRests (number_of conn) e (more_in conn e s.legs (s.staged found)) leg (option_map read o)
    run_rests leg None is r = ((s.staged found).kept (undropped conn.run (known L ev acts turn n e conn s found).runs is) ∙ r.0, r.1)
    run_rests leg (Some Ended.Output) is r = r
    run_rests leg (Some _) is r = dead (λ on. false≢true (sym on ∙ r))

    told : (leg : Started) → IsLast (site_of conn) (number_of conn) e s.legs leg → outcome_of (run_of (site_of conn) (number_of conn) e leg) e.items ≡ option_map read (outcome_of_run conn.run)
    told leg last = outcome_told (site_of conn) (number_of conn) e n s.legs conn.run (known L ev acts turn n e conn s found) leg last

    -- a reply that is cut off
    silent_ends : conn.stage ≡ At.Silent → ends_at conn e ≡ false → ⊥
    silent_ends at on = go (outcome_of_run conn.run) refl
      where
        g : Going conn (is_done_with conn (request_bytes (number_of conn) e))
        g = going conn (is_done_with conn (request_bytes (number_of conn) e)) on

        silent : StageIs (site_of conn) (number_of conn) e s.legs conn.continued (is_looked_at conn.request) (conn.closing || conn.closes) (more_in conn e s.legs (s.staged found)) At.Silent
        silent = stage_at conn e s.legs At.Silent at (s.staged found)

        short : (o : Option Outcome) → outcome_of_run conn.run ≡ o → is_cut_short (option_map read o) ≡ true
        short o is = ap (λ (p : Option Outcome). is_cut_short (option_map read p)) (sym is) ∙ (sym (ap is_cut_short (told silent.0.leg silent.0.last)) ∙ silent.0.cut)

        cut_by : (o : Option Outcome) → outcome_of_run conn.run ≡ o → CutBy o conn.cut
        cut_by o is = subst (λ (p : Option Outcome). CutBy p conn.cut) is (subst (λ (t : Stage). CutIs t (outcome_of_run conn.run) conn.cut) at (s.inward.cut_is found))

        none_some : (cause : Cause) → conn.cut ≡ None → conn.cut ≡ Some cause → ⊥
        none_some cause a b = let both : None ≡ Some cause = sym a ∙ b in absurd (cc)

        of_left : (o : Option Outcome) → outcome_of_run conn.run ≡ o → is_left o ≡ true → ⊥
        of_left o is left = false≢true (sym (or_from (flags_of conn).stopped (flags_of conn).gone g.unstopped g.here) ∙ s.inward.left found (ap is_left is ∙ left))

        go : (o : Option Outcome) → outcome_of_run conn.run ≡ o → ⊥
        go None is = false≢true (short None is)
        go (Some Ended.Output) is = false≢true (short (Some Ended.Output) is)
        go (Some (Ended.Failed cause)) is = none_some cause g.uncut (cut_by (Some (Ended.Failed cause)) is)
        go (Some Ended.Gone) is = of_left (Some Ended.Gone) is refl
        go (Some Ended.Stopped) is = of_left (Some Ended.Stopped) is refl
        go (Some Ended.Dropped) is = of_left (Some Ended.Dropped) is refl

    rests_at : (t : Stage) → conn.stage ≡ t → QuietBy conn e t → Rests (site_of conn) (number_of conn) e s.legs (is_looked_at conn.request) (more_in conn e s.legs (s.staged found)) t
    rests_at At.Reading at q = λ live_now.
        let live : is_live (flags_of conn) ≡ true = sym live_same ∙ live_now in
        let still : (not (ends_at conn e) && not (is_looked_at conn.request)) ≡ false =
        subst (λ (x : Stage). goes_at conn (is_done_with conn (request_bytes (number_of conn) e)) x ≡ false) at (c.still live) in
        not-false (is_looked_at conn.request) (sym (ap (λ (b : Bool). not b && not (is_looked_at conn.request)) (c.on live)) ∙ still)
    rests_at (At.Refused cause) at q =
        turn_not (λ live. subst (λ (x : Stage). goes_at conn (is_done_with conn (request_bytes (number_of conn) e)) x ≡ false) at (c.still live))
    rests_at (At.Unstarted hop request) at q =
        turn_not (λ live. subst (λ (x : Stage). goes_at conn (is_done_with conn (request_bytes (number_of conn) e)) x ≡ false) at (c.still live))
    rests_at (At.Running leg) at q =
        (q.0, λ started last. subst (λ (o : Option Read). RunRests (number_of conn) e (more_in conn e s.legs (s.staged found)) leg o) (sym (told started last)) (run_rests leg (outcome_of_run conn.run) refl q.1))
    rests_at At.Silent at q = dead (silent_ends at)
    rests_at At.Answered at q = tt
    rests_at _ at q = q

    pub rests_now : Rests (site_of conn) (number_of conn) e s.legs (is_looked_at conn.request) (more_in conn e s.legs (s.staged found)) conn.stage
    rests_now = rests_at conn.stage refl quiet

    -- the rules on what is written, started and answered are kept
    pub rules_kept : KeepsStepRules (site_of conn) (number_of conn) e
    rules_kept =
        rests_keep_rules (site_of conn) (number_of conn) e s.legs conn.continued (is_looked_at conn.request) (conn.closing || conn.closes) (more_in conn e s.legs (s.staged found)) conn.stage
        (stage_is conn e s.legs (s.staged found)) continued_end rests_now
