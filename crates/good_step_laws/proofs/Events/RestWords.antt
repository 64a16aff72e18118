-- What is known of a connection at rest, before an event.
use Rattle.std.proofs.Common.{◌≡◌, ◌≤◌, ℕ, Bool, true, false, ◌&&◌, ◌||◌, not, List, Option, Some, None, is_some, option_map, refl, sym, ap, ◌∙◌, subst}
use Rattle.std.specs.List.{list_any}
use Rattle.std.proofs.lemmas.Bool.{and_from, and_parts, false≢true, false_from_ne_true, not-true, or_left, or_parts, or_right}
use Rattle.host_base.specs.declared.limits.Limits.{Limits}
use Rattle.host_trace.specs.declared.items.Item.{Item}
use Rattle.host_trace.specs.Kinds.{is_child_eof, is_output_end}
use Rattle.host_trace.specs.Decider.{derived}
use Rattle.trace_child.specs.Decided.{outcome_of}
use Rattle.child_core.specs.declared.ending.Outcome.{Outcome}
use Rattle.child_core.specs.declared.ending.Outcome.TheVariants as Ended
use Rattle.child_core.specs.Calls.{is_settled}
use Rattle.child_core.specs.Due.{is_ask_due, is_at_rest, is_feed_due, is_input_due, is_kill_due, is_release_due}
use Rattle.child_core.specs.Knows.{read}
use Rattle.child_core.specs.View.{View, is_other, is_output}
use Rattle.request_reader.specs.Request.{is_begun}
use Rattle.trace_model.specs.Exchange.{Exchange, request_bytes}
use Rattle.trace_model.specs.Legs.{Leg as Started, run_of}
use Rattle.trace_model.specs.Standing.{stands_whole}
use Rattle.exchange_request.specs.Knows.{is_looked_at}
use Rattle.exchange_stage.specs.declared.stage.Leg.{Leg}
use Rattle.exchange_stage.specs.declared.stage.Stage.{Stage}
use Rattle.exchange_stage.specs.declared.stage.Stage.TheVariants as At
use Rattle.exchange_laws.specs.OfRun.{leg_held}
use Rattle.exchange_laws.specs.Rules.{Rests, RunRests}
use Rattle.exchange_laws.specs.StageIs.{IsRunning, LostIs}
use Rattle.exchange_laws.proofs.ReasonParts.{startable_begun}
use Rattle.host_trace.specs.Decider.{Outcome as Read}
use Rattle.conn_flags.specs.View.{has_room, is_live}
use Rattle.child_laws.specs.Children.{is_over as is_settled_run}
use Rattle.child_laws.proofs.KnowLaws.{ends_exact}
use Rattle.http_conn.specs.HttpConn.{HttpConn}
use Rattle.http_conn.specs.Hears.{TellsBegun}
use Rattle.http_conn.specs.Kept.{is_reading, flags_of, number_of, site_of}
use Rattle.http_conn.specs.Reasons.{is_done_with}
use Rattle.http_conn.specs.Settles.{is_answered}
use Rattle.http_conn.specs.Slot.{run_settled}
use Rattle.http_stage_laws.specs.HeardStages.{AtRest, Rested}
use Rattle.http_stage_laws.specs.Inward.{IsDecided, StaysRun, is_running}
use Rattle.http_stage_laws.proofs.EndLaws.{is_at_answered}
use Rattle.http_stage_laws.proofs.HeardRest.{at_stage, known_at, no_leg, tells}
use Rattle.http_stage_laws.proofs.HeardStill.{any_more, eof_ends}
use Rattle.http_step_laws.proofs.EndWords.{Going, going}
use Rattle.http_step_laws.proofs.ReadLaws.{is_at_reading}
use Rattle.http_step_laws.proofs.StageWords.{same_settled}
use Rattle.good_step_laws.proofs.Events.OutlineWords.{answered_still, is_calm, running_at}

-- ---- a run for whose child nothing is due

-- once it is decided, a child that was started and exited is settled
module _ (v : View) (may : Bool) (rests : is_at_rest may v ≡ true) (decided : is_some v.outcome ≡ true) (started : v.started ≡ true) (exited : v.exited ≡ true) where
  none_due : (is_feed_due v || is_input_due v || is_kill_due v || is_release_due v || is_ask_due may v) ≡ false
  none_due = not-true (is_feed_due v || is_input_due v || is_kill_due v || is_release_due v || is_ask_due may v) rests

  no_release : (is_feed_due v || is_input_due v || is_kill_due v ≡ false) × (is_release_due v ≡ false)
  no_release = or_parts _ (is_release_due v) (or_parts (is_feed_due v || is_input_due v || is_kill_due v || is_release_due v) (is_ask_due may v) none_due).0

  no_input : is_input_due v ≡ false
  no_input = (or_parts (is_feed_due v) (is_input_due v) (or_parts (is_feed_due v || is_input_due v) (is_kill_due v) no_release.0).0).1

  left_true : (a b : Bool) → a ≡ true → (a && not b) ≡ false → b ≡ true
  left_true true true a e = refl
  left_true true false a e = absurd (false≢true (sym e))
  left_true false b a e = absurd (false≢true a)

  pub input : v.input_ended ≡ true
  input = left_true _ v.input_ended (and_from v.started _ started (or_left _ _ (or_left _ _ decided))) no_input

  output_by : is_other v.outcome ≡ true → v.output_ended ≡ true
  output_by other = left_true _ v.output_ended (and_from _ _ (and_from v.started v.exited started exited) (or_left _ _ (or_left _ _ other))) no_release.1

  by_outcome : (o : Option Outcome) → is_some o ≡ true → is_output o ≡ false → is_other o ≡ true
  by_outcome None some other = absurd (false≢true some)
  by_outcome (Some Ended.Output) some other = absurd (false≢true (sym other))
  by_outcome (Some o) some other = refl

  pub settled_then : (is_output v.outcome ≡ true → v.output_ended ≡ true) → is_settled v ≡ true
  settled_then eof = or_right v.refused _ (and_from _ v.output_ended (and_from v.exited v.input_ended exited input) (go (is_output v.outcome) refl))
    where
      go : (b : Bool) → is_output v.outcome ≡ b → v.output_ended ≡ true
      go true is = eof is
      go false is = output_by (by_outcome v.outcome decided is)

-- ---- the connection

module _ (old : HttpConn) (L : List Item) (e : Exchange) (legs : List Started) (next : ℕ) (rest : AtRest old L e legs next) where
  whole : is_answered old.stage ≡ true → stands_whole (site_of old) (number_of old) e ≡ true
  whole answered = go old.lost refl
    where
      at : old.stage ≡ At.Answered
      at = is_at_answered old.stage answered

      go : (b : Bool) → old.lost ≡ b → stands_whole (site_of old) (number_of old) e ≡ true
      go false found = (at_stage old L e legs next rest (rest.found found) At.Answered at).whole
      go true lost = (subst (λ (s : Stage). LostIs (site_of old) (number_of old) e legs old.continued (old.closing || old.closes) s) at (rest.lost lost).lost).whole

  -- its whole answer stands only while its child is not settled
  pub busy : is_answered old.stage ≡ true → run_settled old.run ≡ false
  busy answered = false_from_ne_true (run_settled old.run) (λ settled.
      false≢true (sym rest.unended
      ∙ (ends_exact (site_of old) (number_of old) e false next legs old.run rest.children
      ∙ and_from (is_settled_run old.run) (stands_whole (site_of old) (number_of old) e) (same_settled old.run ∙ settled) (whole answered))))

  module _ (found : old.lost ≡ false) where
    pub rested : Rested old e legs
    rested = rest.found found

    -- while it is live nothing ends it
    pub going_now : is_live (flags_of old) ≡ true → Going old (is_done_with old (request_bytes (number_of old) e))
    going_now live = going old (is_done_with old (request_bytes (number_of old) e)) (rested.going live)

    calm_at : (s : Stage) → Rests (site_of old) (number_of old) e legs (is_looked_at old.request) rested.staged.more s → is_calm s ≡ true
    calm_at (At.Rejected cause bare) r = absurd r
    calm_at (At.Interrupted cause) r = absurd r
    calm_at (At.Starting leg launch body whole) r = absurd r
    calm_at (At.Finishing text closes) r = absurd r
    calm_at s r = refl

    pub calm_now : is_calm old.stage ≡ true
    calm_now = calm_at old.stage rested.rests

    -- a connection that has a child reads no request
    pub away : (v : View) → old.run ≡ Some v → is_reading old.stage ≡ false
    away v is = false_from_ne_true (is_reading old.stage) (λ reads.
        let none : old.run ≡ None = no_leg old L e legs next rest (at_stage old L e legs next rest rested At.Reading (is_at_reading old.stage reads)).0.none in
        let never : None ≡ Some v = sym none ∙ is in
        absurd (cc))

    -- ---- its script runs

    module _ (running : is_running old.stage ≡ true) where
      abbrev leg : Leg
      leg = (running_at old.stage running).0

      at : old.stage ≡ At.Running leg
      at = (running_at old.stage running).1

      is_run : IsRunning (site_of old) (number_of old) e legs old.continued rested.staged.more leg
      is_run = (at_stage old L e legs next rest rested (At.Running leg) at).0

      -- and its output hasn't ended
      pub not_output : (v : View) → old.run ≡ Some v → v.outcome ≡ Some Ended.Output → ⊥
      not_output v is ended =
          let comes : outcome_of (run_of (site_of old) (number_of old) e (leg_held leg is_run.child)) e.items ≡ Some derived =
          (tells old L e legs next rest v is (leg_held leg is_run.child) is_run.last).outcome ∙ ap (λ (o : Option Outcome). option_map read o) ended in
          let rests = subst (λ (s : Stage). Rests (site_of old) (number_of old) e legs (is_looked_at old.request) rested.staged.more s) at rested.rests in
          subst (λ (o : Option Read). RunRests (number_of old) e rested.staged.more leg o) comes (rests.1 (leg_held leg is_run.child) is_run.last)

      -- and its request has begun
      pub begun_now : is_begun (request_bytes (number_of old) e) ≡ true
      begun_now = startable_begun (site_of old) (number_of old) e is_run.last.reached.reaches.first rest.two is_run.last.reached.reaches.start

      -- .. as the request says
      pub begun_tells : (begun : Bool) → TellsBegun old.request begun → begun ≡ true
      begun_tells begun tells =
          let heard = rest.front.request found is_run.unclosed in
          tells (request_bytes (number_of old) e) heard.taken heard.knows (subst (λ (l : Limits). 2 ≤ l.head) (sym rest.front.limits) rest.two) ∙ begun_now

    -- ---- its whole answer stands, and its child is not settled: no act settles it

    module _ (answered : is_answered old.stage ≡ true) where
      decided : IsDecided old.run
      decided = rest.inward.decided found (answered_still old.stage answered)

      unexited : (v : View) → old.run ≡ Some v → (v.started && v.exited) ≡ false
      unexited v is = false_from_ne_true (v.started && v.exited) (λ both.
          let parts = and_parts v.started v.exited both in
          let settled : is_settled v ≡ true =
          settled_then v (has_room (flags_of old)) (rest.even v is) (subst (λ (r : Option View). IsDecided r) is decided) parts.0 parts.1 (λ output. eof output) in
          false≢true (sym (ap run_settled (sym is) ∙ busy answered) ∙ settled))
        where
          eof : is_output v.outcome ≡ true → v.output_ended ≡ true
          eof output =
              let runs = (known_at old L e legs next rest (Some v) is).runs in
              let ended : list_any (is_output_end runs.view.number) e.items ≡ true =
              any_more (is_child_eof runs.view.number) (is_output_end runs.view.number) (eof_ends runs.view.number) e.items
              (runs.known.knows.eof (ap (λ (w : View). is_output w.outcome) (sym runs.held_as) ∙ output)) in
              ap (λ (w : View). w.output_ended) runs.held_as ∙ (runs.known.knows.output_ended ∙ ended)

      pub stays_now : StaysRun old.run
      stays_now = go old.run refl
        where
          go : (run : Option View) → old.run ≡ run → StaysRun run
          go None is = tt
          go (Some v) is = (ap run_settled (sym is) ∙ busy answered, unexited v is)
