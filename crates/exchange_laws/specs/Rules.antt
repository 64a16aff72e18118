-- When an exchange has ended, and the rules on what is written at a step's end, by its stage.
use Rattle.std.specs.Prelude.{ℕ, ◌≡◌, ◌≤◌, Bool, true, false, not, ◌&&◌, List, [], ◌+◌, Option, Some, None}
use Rattle.host_base.specs.declared.launch.Launch.{Launch}
use Rattle.host_base.specs.declared.site.Site.{Site}
use Rattle.host_trace.specs.declared.items.Act.TheVariants.{Start, Write}
use Rattle.host_trace.specs.Account.{has_unsettled}
use Rattle.host_trace.specs.Decider.{Outcome, derived, failed, unanswered}
use Rattle.host_trace.specs.Projections.{shut, shut_for_memory, stopped}
use Rattle.trace_child.specs.Decided.{outcome_of}
use Rattle.trace_child.specs.Words.{is_filled}
use Rattle.trace_model.specs.Answer.{legs as legs_of}
use Rattle.trace_model.specs.Answers.{answers, begins_in_turn}
use Rattle.trace_model.specs.Begins.{begins}
use Rattle.trace_model.specs.Demands.{is_live, may_go_on}
use Rattle.trace_model.specs.Exchange.{Exchange, all_of, continue_text, has_begun, reading}
use Rattle.trace_model.specs.Exchanges.{has_ended}
use Rattle.trace_model.specs.Hops.{hops}
use Rattle.trace_model.specs.Launches.{is_right_start}
use Rattle.trace_model.specs.Legs.{Leg, run_of}
use Rattle.trace_model.specs.Readings.{is_whole}
use Rattle.trace_model.specs.Replies.{is_silent_once_closed, replies}
use Rattle.trace_model.specs.Shuts.{has_closed}
use Rattle.trace_model.specs.Standing.{may_stand, may_stand_in_part, stands_whole}
use Rattle.trace_model.specs.Streams.{begins_no_sooner, streams}
use Rattle.conn_laws.specs.Hops.{SameLegs}
use Rattle.exchange_reply.specs.StepRules.{is_continued}
use Rattle.exchange_stage.specs.declared.stage.Leg.{Leg as Held}
use Rattle.exchange_stage.specs.declared.stage.Stage.{Stage}
use Rattle.exchange_stage.specs.declared.stage.Stage.TheVariants as At
use Rattle.exchange_laws.specs.Walked.{IsLast}
use Rattle.exchange_laws.specs.Unanswered.{is_awaited}
use Rattle.exchange_laws.specs.StageIs.{IsLost, IsWalked, StageIs}
use Rattle.exchange_laws.specs.Items.{is_unanswered}

-- ---- whether the whole answer stands

abbrev pub is_answered : Stage → Bool
is_answered At.Answered = true
is_answered _ = false

-- a run of which the whole output may stand already, and is not taken for its end yet
abbrev pub IsUnended : Site → ℕ → Exchange → List Leg → Stage → Type 0
IsUnended site c e legs (At.Running held) =
    (leg : Leg) → IsLast site c e legs leg → outcome_of (run_of site c e leg) e.items ≡ Some derived → ⊥
IsUnended site c e legs (At.Finishing text closes) = is_filled text ≡ true
IsUnended site c e legs s = Unit {0}

-- The whole answer stands at the stage that says so, and at no other.
abbrev pub WholeIsAnswered : Type 0
WholeIsAnswered = (site : Site) (c : ℕ) (e : Exchange) (legs : List Leg) (continued looked closing : Bool) (more : List ℕ) (s : Stage)
    → StageIs site c e legs continued looked closing more s → IsUnended site c e legs s → stands_whole site c e ≡ is_answered s

-- So there the exchange has ended where its children are settled,
abbrev pub EndsAreAnswered : Type 0
EndsAreAnswered = (site : Site) (c : ℕ) (e : Exchange) (legs : List Leg) (continued looked closing : Bool) (more : List ℕ) (s : Stage)
    → StageIs site c e legs continued looked closing more s → IsUnended site c e legs s
    → has_ended site c e ≡ (not (has_unsettled e.items c) && is_answered s)

-- .. and an answer that closes the connection stands where `closing` says so.
abbrev pub ClosingIsKnown : Type 0
ClosingIsKnown = (site : Site) (c : ℕ) (e : Exchange) (legs : List Leg) (continued looked closing : Bool) (more : List ℕ) (s : Stage)
    → StageIs site c e legs continued looked closing more s → IsUnended site c e legs s → has_closed site c e ≡ closing

-- Where it doesn't close the connection the request was heard whole.
abbrev pub AnsweredAreRead : Type 0
AnsweredAreRead = (site : Site) (c : ℕ) (e : Exchange) (legs : List Leg) (continued looked : Bool) (more : List ℕ) → 2 ≤ site.limits.head
    → StageIs site c e legs continued looked false more At.Answered → is_whole (reading site c e) ≡ true

-- ---- what was begun

-- Where nothing of the final answer is written it has begun if a script was started.
abbrev pub BegunByStarts : Type 0
BegunByStarts = (site : Site) (c : ℕ) (e : Exchange) (legs : List Leg) (continued looked closing : Bool) (more : List ℕ) (s : Stage)
    → StageIs site c e legs continued looked closing more s → is_unanswered s ≡ true → has_begun site c e ≡ is_filled legs

-- 100 Continue stands where it was due, unless it waits to be written.
abbrev pub ContinuesStand : Type 0
ContinuesStand = (site : Site) (c : ℕ) (e : Exchange) (legs : List Leg) (continued looked closing : Bool) (more : List ℕ) (s : Stage)
    → StageIs site c e legs continued looked closing more s → (is_unanswered s ≡ true → continued ≡ false → is_awaited site c e ≡ false)
    → is_continued site c e ≡ true

-- .. and it waits only where nothing of the final answer is written.
abbrev pub ContinuesComeFirst : Type 0
ContinuesComeFirst = (site : Site) (c : ℕ) (e : Exchange) (legs : List Leg) (looked closing : Bool) (more : List ℕ) (s : Stage)
    → StageIs site c e legs false looked closing more s → is_unanswered s ≡ false → is_awaited site c e ≡ false

-- The legs of the model are those that were started.
pub record LegsAre (site : Site) (c : ℕ) (e : Exchange) (legs : List Leg) : Type 0 where
  pub walked : IsWalked site c e legs → SameLegs legs (legs_of site c e)
  pub counted : (leg : Leg) (last : IsLast site c e legs leg) → last.left + leg.hop ≡ site.limits.redirects

abbrev pub LegsAreStarted : Type 0
LegsAreStarted = (site : Site) (c : ℕ) (e : Exchange) (legs : List Leg) → LegsAre site c e legs

abbrev pub StagesAreWalked : Type 0
StagesAreWalked = (site : Site) (c : ℕ) (e : Exchange) (legs : List Leg) (continued looked closing : Bool) (more : List ℕ) (s : Stage)
    → StageIs site c e legs continued looked closing more s → IsWalked site c e legs

-- ---- nothing is due

-- by what decided the run of the last leg
abbrev pub RunRests : ℕ → Exchange → List ℕ → Held → Option Outcome → Type 0
RunRests c e more held None = (more ≡ []) × (held.ticked ≡ false)
RunRests c e more held (Some derived) = ⊥
RunRests c e more held (Some unanswered) = is_live c (all_of e) ≡ false
RunRests c e more held (Some (failed cause)) = is_live c (all_of e) ≡ false

-- At a step's end at this stage all is done that can be: of a connection that is not shut all that was heard was looked
-- at, and what waits for its turn may not come.
abbrev pub Rests : Site → ℕ → Exchange → List Leg → Bool → List ℕ → Stage → Type 0
Rests site c e legs looked more At.Reading = is_live c (all_of e) ≡ true → looked ≡ true
Rests site c e legs looked more (At.Rejected cause bare) = ⊥
Rests site c e legs looked more (At.Interrupted cause) = ⊥
Rests site c e legs looked more (At.Refused cause) = (is_live c (all_of e) && may_go_on c e) ≡ false
Rests site c e legs looked more (At.Unstarted hop request) = (is_live c (all_of e) && may_go_on c e) ≡ false
Rests site c e legs looked more (At.Starting held launch body whole) = ⊥
Rests site c e legs looked more (At.Running held) =
    (held.text ≡ []) × ((leg : Leg) → IsLast site c e legs leg → RunRests c e more held (outcome_of (run_of site c e leg) e.items))
Rests site c e legs looked more (At.Finishing text closes) = ⊥
Rests site c e legs looked more At.Answered = Unit {0}
Rests site c e legs looked more At.Silent = is_live c (all_of e) ≡ false

-- the rules on what is written, started and answered, at a step's end
pub record KeepsStepRules (site : Site) (c : ℕ) (e : Exchange) : Type 0 where
  pub may : may_stand site c e ≡ true
  pub replies_then : replies site c e ≡ true
  pub silent : is_silent_once_closed c e ≡ true
  pub begins_then : begins site c e ≡ true
  pub answers_then : answers site c e ≡ true
  pub hops_then : hops site c e ≡ true
  pub streams_then : streams site c e ≡ true
  pub no_sooner : begins_no_sooner site c e ≡ true

abbrev pub RestsKeepRules : Type 0
RestsKeepRules = (site : Site) (c : ℕ) (e : Exchange) (legs : List Leg) (continued looked closing : Bool) (more : List ℕ) (s : Stage)
    → StageIs site c e legs continued looked closing more s → is_continued site c e ≡ true → Rests site c e legs looked more s → KeepsStepRules site c e

-- .. and where memory ran out, the connection is shut for it, and so no run goes on
pub record LostKeepsRules (site : Site) (c : ℕ) (e : Exchange) : Type 0 where
  pub may : may_stand_in_part site c e ≡ true
  pub replies_then : shut_for_memory (all_of e) c ≡ true → replies site c e ≡ true
  pub silent : is_silent_once_closed c e ≡ true
  pub no_sooner : begins_no_sooner site c e ≡ true

abbrev pub LossesKeepRules : Type 0
LossesKeepRules = (site : Site) (c : ℕ) (e : Exchange) (legs : List Leg) (continued : Bool) → IsLost site c e legs continued
    → ((leg : Leg) → IsLast site c e legs leg → outcome_of (run_of site c e leg) e.items ≡ None → ⊥) → LostKeepsRules site c e

-- ---- acts

-- The Start is the one that is due.
abbrev pub StartsAreRight : Type 0
StartsAreRight = (site : Site) (c : ℕ) (e : Exchange) (legs : List Leg) (continued looked closing : Bool) (more : List ℕ) (held : Held) (launch : Launch)
    (body : List ℕ) (whole : Bool) (k : ℕ) → StageIs site c e legs continued looked closing more (At.Starting held launch body whole)
    → may_go_on c e ≡ true → stopped (all_of e) ≡ false → shut (all_of e) c ≡ false
    → is_right_start site c e (Start k c e.number held.hop launch) ≡ true

-- An answer begins no sooner than it may.
pub record WritesInTurn (site : Site) (c : ℕ) (e : Exchange) (legs : List Leg) (continued looked closing : Bool) (more : List ℕ) (s : Stage) : Type 0 where
  pub continues_then : is_unanswered s ≡ true → continued ≡ false → is_awaited site c e ≡ true → begins_in_turn site c e (Write c continue_text) ≡ true
  pub part : (held : Held) → s ≡ At.Running held → is_filled held.text ≡ true → begins_in_turn site c e (Write c held.text) ≡ true
  pub rest : (text : List ℕ) (closes : Bool) → s ≡ At.Finishing text closes → begins_in_turn site c e (Write c text) ≡ true

abbrev pub WritesComeInTurn : Type 0
WritesComeInTurn = (site : Site) (c : ℕ) (e : Exchange) (legs : List Leg) (continued looked closing : Bool) (more : List ℕ) (s : Stage)
    → 2 ≤ site.limits.head → StageIs site c e legs continued looked closing more s → WritesInTurn site c e legs continued looked closing more s
