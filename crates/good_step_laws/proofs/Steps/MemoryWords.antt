-- Of a live connection at rest nothing is due.
use Rattle.std.proofs.Common.{◌≡◌, ℕ, Bool, true, false, ◌&&◌, ◌||◌, not, List, [], Option, Some, None, option_map, inl, refl, sym, ap, ◌∙◌, subst}
use Rattle.std.proofs.lemmas.Bool.{and_from, and_parts, false≢true, false_from_ne_true}
use Rattle.host_trace.specs.Decider.{Outcome as Read}
use Rattle.host_trace.specs.declared.items.Item.{Item}
use Rattle.trace_child.specs.Decided.{outcome_of}
use Rattle.child_core.specs.declared.ending.Outcome.{Outcome}
use Rattle.child_core.specs.declared.ending.Outcome.TheVariants as Ended
use Rattle.child_core.specs.Calls.{is_settled}
use Rattle.child_core.specs.Due.{acted, ask_given, feed_given, has_lingered, input_given, is_feed_due, is_input_due, is_left_alone, is_release_due, kill_given, release_given}
use Rattle.child_core.specs.Knows.{read}
use Rattle.child_core.proofs.EndLaws.{rests_of}
use Rattle.child_core.specs.View.{View, is_other}
use Rattle.trace_model.specs.Demands.{has_room as room_then, is_live as live_then, may_go_on}
use Rattle.trace_model.specs.Exchange.{Exchange, all_of}
use Rattle.trace_model.specs.Legs.{Leg as Started, run_of}
use Rattle.host_trace.specs.Account.{has_unsettled}
use Rattle.exchange_request.specs.Knows.{is_looked_at}
use Rattle.exchange_stage.specs.declared.stage.Leg.{Leg}
use Rattle.exchange_stage.specs.declared.stage.Stage.{Stage}
use Rattle.exchange_stage.specs.declared.stage.Stage.TheVariants as At
use Rattle.exchange_laws.specs.OfRun.{leg_held}
use Rattle.exchange_laws.specs.Rules.{Rests, RunRests}
use Rattle.exchange_laws.specs.StageIs.{IsRunning}
use Rattle.conn_flags.specs.View.{has_room, is_live}
use Rattle.child_laws.proofs.KnowLaws.{unsettled_exact}
use Rattle.http_conn.specs.HttpConn.{HttpConn}
use Rattle.http_conn.specs.Kept.{flags_of, number_of, site_of}
use Rattle.http_conn.specs.Ready.{outcome_of_run, undrained}
use Rattle.http_conn.specs.Slot.{run_settled}
use Rattle.http_stage_laws.specs.HeardStages.{AtRest, Rested}
use Rattle.http_stage_laws.specs.Inward.{is_running}
use Rattle.http_stage_laws.proofs.HeardEnd.{running_leg}
use Rattle.http_stage_laws.proofs.HeardRest.{at_stage, no_run, same_list, says, tells}
use Rattle.http_stage_laws.proofs.StagedLaws.{keeps_output}
use Rattle.http_step_laws.proofs.StageWords.{same_settled}
use Rattle.good_step_laws.specs.Shuts.Memory.{Calm, CalmAt, CalmRun, IsCalmRun, NoTurn, Unfed}

-- ---- a run

-- `x`: its child exited, after which neither of the acts is due that would settle it
settles : (r x i o d s k a b : Bool) → (x ≡ true → (d ≡ false) × (((s && x && (a || k)) && not o) ≡ false))
    → (r || x && (d || i) && (((s && x && (a || ((s && not x && b) && not k || k))) && not o) || o)) ≡ (r || x && i && o)
settles r false i o d s k a b quiet = refl
settles r true i o true s k a b quiet = absurd (false≢true (sym (quiet refl).0))
settles r true i o false true k a b quiet = ap (λ (z : Bool). r || i && (z || o)) (quiet refl).1
settles r true i o false false k a b quiet = refl

same_feed : (v : View) → is_feed_due v ≡ false → feed_given v ≡ v
same_feed v none = rw none refl

stays_settled : (may : Bool) (v : View) → is_feed_due v ≡ false → (v.exited ≡ true → (is_input_due v ≡ false) × (is_release_due v ≡ false)) → is_settled (acted may v) ≡ is_settled v
unfolding acted
stays_settled may v none quiet =
    ap (λ (w : View). is_settled (ask_given may (release_given (kill_given (input_given w))))) (same_feed v none)
    ∙ settles v.refused v.exited v.input_ended v.output_ended (is_input_due v) v.started v.killed (is_other v.outcome || is_left_alone v) (is_other v.outcome || is_left_alone v || has_lingered v) quiet

pub calm_run : (running may : Bool) (v : View) → is_feed_due v ≡ false → (running ≡ false → v.exited ≡ true → (is_input_due v ≡ false) × (is_release_due v ≡ false)) → IsCalmRun running may v
calm_run running may v none quiet = record { unfed = none; stays = λ other. stays_settled may v none (quiet other) }

-- ---- a connection

module _ (old : HttpConn) (L : List Item) (e : Exchange) (legs : List Started) (next : ℕ) (rest : AtRest old L e legs next) where
  pub unfed_before : Unfed old.run
  unfed_before v is = (rests_of (has_room (flags_of old)) v (rest.even v is)).feed

  pub run_quiet : (running may : Bool) → CalmRun running may old.run
  run_quiet running may = go old.run refl
    where
      go : (run : Option View) → old.run ≡ run → CalmRun running may run
      go None is = tt
      go (Some v) is =
          let none = rests_of (has_room (flags_of old)) v (rest.even v is) in
          calm_run running may v none.feed (λ other exited. (none.input, none.release))

  pub run_before : CalmRun (is_running old.stage) (has_room (flags_of old)) old.run
  run_before = run_quiet (is_running old.stage) (has_room (flags_of old))

  -- the next hop may come where no child is left and there is room
  may_turn : run_settled old.run ≡ true → has_room (flags_of old) ≡ true → may_go_on (number_of old) e ≡ true
  may_turn settled room =
      and_from (room_then (number_of old) (all_of e)) (not (has_unsettled e.items (number_of old)))
      (ap (λ (l : List Item). room_then (number_of old) l) (same_list old L e legs next rest) ∙ (sym (says old L e legs next rest).room ∙ room))
      (ap not (unsettled_exact (site_of old) (number_of old) e false next legs old.run rest.children ∙ ap not (same_settled old.run ∙ settled)))

  module _ (found : old.lost ≡ false) (live : is_live (flags_of old) ≡ true) where
    rested : Rested old e legs
    rested = rest.found found

    live_now : live_then (number_of old) (all_of e) ≡ true
    live_now = ap (λ (l : List Item). live_then (number_of old) l) (same_list old L e legs next rest) ∙ (sym (says old L e legs next rest).live ∙ live)

    no_turn : (live_then (number_of old) (all_of e) && may_go_on (number_of old) e) ≡ false → NoTurn old
    no_turn waits = false_from_ne_true (run_settled old.run && has_room (flags_of old)) (λ both.
        let p = and_parts (run_settled old.run) (has_room (flags_of old)) both in
        false≢true (sym waits ∙ and_from (live_then (number_of old) (all_of e)) (may_go_on (number_of old) e) live_now (may_turn p.0 p.1)))

    -- its script runs: nothing decided the run, and its output was told
    module _ (leg : Leg) (at : old.stage ≡ At.Running leg) (rests : Rests (site_of old) (number_of old) e legs (is_looked_at old.request) rested.staged.more (At.Running leg)) where
      is_run : IsRunning (site_of old) (number_of old) e legs old.continued rested.staged.more leg
      is_run = (at_stage old L e legs next rest rested (At.Running leg) at).0

      run_rests : RunRests (number_of old) e rested.staged.more leg (outcome_of (run_of (site_of old) (number_of old) e (leg_held leg is_run.child)) e.items)
      run_rests = rests.1 (leg_held leg is_run.child) is_run.last

      -- by what decided it
      by_outcome : (v : View) → old.run ≡ Some v → (o : Option Outcome) → v.outcome ≡ o → RunRests (number_of old) e rested.staged.more leg (option_map read o)
          → (outcome_of_run old.run ≡ None) × (undrained old.run ≡ []) × (leg.ticked ≡ false)
      by_outcome v is None none r = (ap outcome_of_run is ∙ none, sym (rested.staged.kept (keeps_output (site_of old) (number_of old) e next legs old.run rest.children (ap (λ (r : Option View). is_other (outcome_of_run r)) is ∙ ap is_other none))) ∙ r.0, r.1)
      by_outcome v is (Some Ended.Output) decided r = absurd r
      by_outcome v is (Some (Ended.Failed cause)) decided r = absurd (false≢true (sym r ∙ live_now))
      by_outcome v is (Some Ended.Gone) decided r = absurd (false≢true (sym r ∙ live_now))
      by_outcome v is (Some Ended.Stopped) decided r = absurd (false≢true (sym r ∙ live_now))
      by_outcome v is (Some Ended.Dropped) decided r = absurd (false≢true (sym r ∙ live_now))

      running : (outcome_of_run old.run ≡ None) × (undrained old.run ≡ []) × (leg.ticked ≡ false)
      running = go old.run refl
        where
          go : (run : Option View) → old.run ≡ run → (outcome_of_run old.run ≡ None) × (undrained old.run ≡ []) × (leg.ticked ≡ false)
          go None is = absurd (running_leg old L e legs next rest found rested leg at (no_run old L e legs next rest is))
          go (Some v) is =
              by_outcome v is v.outcome refl
              (subst (λ (o : Option Read). RunRests (number_of old) e rested.staged.more leg o) (tells old L e legs next rest v is (leg_held leg is_run.child) is_run.last).outcome run_rests)

    at_by : (s : Stage) → old.stage ≡ s → Rests (site_of old) (number_of old) e legs (is_looked_at old.request) rested.staged.more s → CalmAt old e s
    at_by At.Reading at r = inl (r live_now)
    at_by (At.Refused cause) at r = no_turn r
    at_by (At.Unstarted hop request) at r = no_turn r
    at_by (At.Running leg) at r = running leg at r
    at_by At.Answered at r = tt
    at_by At.Silent at r = tt
    at_by _ at r = absurd r

    pub calm_before : Calm e old
    calm_before = record { run = run_before; let_on = rested.let_on; at = at_by old.stage refl rested.rests }
