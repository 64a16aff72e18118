-- When the client is to be asked, and why the connection is to be shut, by the stage of its exchange.
use Rattle.std.specs.Prelude.{ℕ, ◌≡◌, ◌≤◌, ◌⊎◌, Bool, true, false, not, ◌&&◌, ◌||◌, ◌==◌, List, Some, None}
use Rattle.host_base.specs.declared.cause.Cause.{Cause}
use Rattle.host_base.specs.declared.site.Site.{Site}
use Rattle.host_trace.specs.Decider.{failed, unanswered}
use Rattle.host_trace.specs.Projections.{upgraded}
use Rattle.request_reader.specs.Request.{is_begun}
use Rattle.trace_child.specs.ChildDemands.{is_all_taken}
use Rattle.trace_child.specs.Decided.{outcome_of}
use Rattle.trace_model.specs.Answer.{answer}
use Rattle.trace_model.specs.Answers.{answers}
use Rattle.trace_model.specs.Begins.{begins}
use Rattle.trace_model.specs.Continues.{continues_then as continues_by_rule}
use Rattle.trace_model.specs.Demands.{client_ended, has_room, is_live, must_hear}
use Rattle.trace_model.specs.Exchange.{Exchange, all_of, reading, request_bytes}
use Rattle.trace_model.specs.Hops.{hops}
use Rattle.trace_model.specs.Legs.{Leg, run_of}
use Rattle.trace_model.specs.Readings.{is_whole}
use Rattle.trace_model.specs.Shuts.{cut_cause, is_done}
use Rattle.trace_model.specs.Streams.{streams}
use Rattle.exchange_reply.specs.StepRules.{is_continued}
use Rattle.exchange_stage.specs.declared.stage.Leg.{Leg as Held}
use Rattle.exchange_stage.specs.declared.stage.Stage.{Stage}
use Rattle.exchange_stage.specs.declared.stage.Stage.TheVariants as At
use Rattle.exchange_laws.specs.Walked.{IsLast}
use Rattle.exchange_laws.specs.StageIs.{StageIs}
use Rattle.exchange_laws.specs.Moves.{Comes, GoesOn}
use Rattle.exchange_laws.specs.Rules.{Rests}

-- ---- the client is asked

-- its request is being read, or its script may run
abbrev pub may_ask : Stage → Bool
may_ask At.Reading = true
may_ask (At.Running held) = true
may_ask _ = false

-- while the request is read, and within the body of a request whose script runs
pub record AsksAre (site : Site) (c : ℕ) (e : Exchange) (legs : List Leg) (s : Stage) : Type 0 where
  pub reads : s ≡ At.Reading → must_hear site c e ≡ (is_live c (all_of e) && has_room c (all_of e) && not (client_ended c (all_of e)))
  pub runs : (held : Held) (leg : Leg) → s ≡ At.Running held → IsLast site c e legs leg → outcome_of (run_of site c e leg) e.items ≡ None
      → must_hear site c e
      ≡ (is_live c (all_of e) && has_room c (all_of e) && (leg.hop == 0 && not (is_whole (reading site c e)) && is_all_taken e.items leg.child))
  pub others : may_ask s ≡ false → must_hear site c e ≡ false
  pub shut : is_live c (all_of e) ≡ false → must_hear site c e ≡ false

abbrev pub AsksAreStaged : Type 0
AsksAreStaged = (site : Site) (c : ℕ) (e : Exchange) (legs : List Leg) (continued looked closing : Bool) (more : List ℕ) (s : Stage)
    → StageIs site c e legs continued looked closing more s → Rests site c e legs looked more s → upgraded e.items c ≡ false → AsksAre site c e legs s

-- ---- the connection is shut

abbrev pub is_reading : Stage → Bool
is_reading At.Reading = true
is_reading _ = false

-- a run decides nothing yet, or nothing that a reply that had begun is cut off for
abbrev pub IsUncut : Site → ℕ → Exchange → List Leg → Stage → Type 0
IsUncut site c e legs (At.Running held) = GoesOn site c e legs ⊎ Comes site c e legs unanswered
IsUncut site c e legs At.Silent = Comes site c e legs unanswered
IsUncut site c e legs s = Unit {0}

pub record ReasonsAre (site : Site) (c : ℕ) (e : Exchange) (legs : List Leg) (closing : Bool) (s : Stage) : Type 0 where
  -- a reply that had begun can't be finished
  pub uncut : IsUncut site c e legs s → cut_cause (answer site c e) ≡ None
  pub cut : s ≡ At.Silent → (cause : Cause) → Comes site c e legs (failed cause) → cut_cause (answer site c e) ≡ Some cause
  -- an answer that closes stands, or the client is done
  pub done : is_done site c e ≡ (closing || client_ended c (all_of e) && is_reading s && not (is_begun (request_bytes c e)))

abbrev pub ReasonsAreStaged : Type 0
ReasonsAreStaged = (site : Site) (c : ℕ) (e : Exchange) (legs : List Leg) (continued looked closing : Bool) (more : List ℕ) (s : Stage)
    → 2 ≤ site.limits.head → StageIs site c e legs continued looked closing more s → Rests site c e legs looked more s
    → ReasonsAre site c e legs closing s

-- ---- a connection that is shut, and 100 Continue

-- nothing is demanded of it
pub record DemandsNothing (site : Site) (c : ℕ) (e : Exchange) : Type 0 where
  pub begins_then : begins site c e ≡ true
  pub answers_then : answers site c e ≡ true
  pub hops_then : hops site c e ≡ true
  pub streams_then : streams site c e ≡ true
  pub continues_then : continues_by_rule site c e ≡ true
  pub asks_none : must_hear site c e ≡ false

abbrev pub ShutsDemandNothing : Type 0
ShutsDemandNothing = (site : Site) (c : ℕ) (e : Exchange) → is_live c (all_of e) ≡ false → DemandsNothing site c e

-- Where 100 Continue stands that was due, the rule on it is kept, unless an earlier answer closes a connection that is not
-- shut.
abbrev pub ContinuesAreGiven : Type 0
ContinuesAreGiven = (site : Site) (c : ℕ) (e : Exchange) → (is_live c (all_of e) ≡ true → e.closed ≡ false) → is_continued site c e ≡ true
    → continues_by_rule site c e ≡ true
