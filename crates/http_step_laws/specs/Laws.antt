-- How what is known of a connection goes on from part to part of a step, and what holds at its end.
use Rattle.std.specs.Prelude.{ℕ, ◌≡◌, ◌≤◌, ◌<◌, ◌^◌, Bool, true, List, [], ◌∷◌, ◌++◌, Option}
use Rattle.std.specs.List.{list_all}
use Rattle.host_base.specs.declared.site.Site.{Site}
use Rattle.host_trace.specs.declared.items.Act.{Act}
use Rattle.host_trace.specs.declared.items.Event.{Event}
use Rattle.host_trace.specs.declared.items.Item.{Item}
use Rattle.host_trace.specs.declared.items.Item.TheVariants.{In}
use Rattle.host_trace.specs.Projections.{last_secs, shut_for_memory}
use Rattle.host_trace.specs.Trace.{Step, after_step, step_of}
use Rattle.own_traces.specs.Whose.{next_after}
use Rattle.trace_child.specs.ChildForm.{may_be_given}
use Rattle.trace_model.specs.Answers.{answers, begins_in_turn}
use Rattle.trace_model.specs.Begins.{begins}
use Rattle.trace_model.specs.Children.{ChildrenGood}
use Rattle.trace_model.specs.Continues.{continues_then}
use Rattle.trace_model.specs.Exchange.{Exchange, all_of}
use Rattle.trace_model.specs.Hears.{hears}
use Rattle.trace_model.specs.Hops.{hops}
use Rattle.trace_model.specs.Launches.{is_right_start}
use Rattle.trace_model.specs.Legs.{Leg as Started}
use Rattle.trace_model.specs.Replies.{is_silent_once_closed, replies, replies_end}
use Rattle.trace_model.specs.Says.{says}
use Rattle.trace_model.specs.Talks.{is_right_talk_act, talks, upgrades}
use Rattle.trace_model.specs.Steps.{each_act, exchanges_in, goes_on}
use Rattle.trace_model.specs.Streams.{begins_no_sooner, streams}
use Rattle.exchange_laws.specs.Asks.{DemandsNothing}
use Rattle.conn_flags.specs.Form.{are_given}
use Rattle.child_laws.specs.Step.{Turn, waiting}
use Rattle.child_laws.specs.Moves.{may_lose}
use Rattle.conn_laws.specs.Moves.{AreInStep, Move, acts_of, moved}
use Rattle.http_conn.specs.HttpConn.{HttpConn}
use Rattle.http_conn.specs.Kept.{flags_of, number_of, site_of}
use Rattle.http_conn.specs.Parts.{Answers, Handles, LetsOn, Part, ReadsOn, RoundsOn, Steps}
use Rattle.http_stage_laws.specs.HeardStages.{AtRest}
use Rattle.http_step_laws.specs.Standing.{Apt, Leaves, LetOn, Quiet, Read, Rest, Standing, Within}

-- ---- parts

-- A look at what came: where nothing ends the connection all is looked at then.
abbrev pub ReadsLeave : Type 0
ReadsLeave = (L : List Item) (ev : Event) (acts : List Act) (turn : Turn) (e : Exchange) (old new : HttpConn) (n : ℕ) (moves : List Move) → Standing L ev acts turn n e old
    → 2 ≤ (site_of old).limits.head → Apt e old → may_lose turn old.run ≡ true → Part ReadsOn old n moves new → are_given (flags_of old) (acts_of moves) ≡ true
    → Leaves (Within turn Read) L ev acts e old n moves new

-- 100 Continue is written where it is due.
abbrev pub LetsOnLeave : Type 0
LetsOnLeave = (L : List Item) (ev : Event) (acts : List Act) (turn : Turn) (e : Exchange) (old new : HttpConn) (n : ℕ) (moves : List Move) → Standing L ev acts turn n e old
    → 2 ≤ (site_of old).limits.head → Read e old → may_lose turn old.run ≡ true → Part LetsOn old n moves new → are_given (flags_of old) (acts_of moves) ≡ true
    → Leaves (Within turn LetOn) L ev acts e old n moves new

-- What came is looked at, and what is due of the answer given.
abbrev pub AnswersLeave : Type 0
AnswersLeave = (L : List Item) (ev : Event) (acts : List Act) (turn : Turn) (e : Exchange) (old new : HttpConn) (n : ℕ) (moves : List Move) (stamp : Option ℕ) → Standing L ev acts turn n e old
    → 2 ≤ (site_of old).limits.head → stamp ≡ last_secs (L ++ In ev ∷ []) → Apt e old → may_lose turn old.run ≡ true → Answers stamp old n moves new
    → are_given (flags_of old) (acts_of moves) ≡ true → Leaves (Within turn Quiet) L ev acts e old n moves new

-- The child is served, and where its exchange is over then the next one begins.
abbrev pub HandlesLeave : Type 0
HandlesLeave = (L : List Item) (ev : Event) (acts : List Act) (e : Exchange) (old new : HttpConn) (n : ℕ) (moves : List Move) → Standing L ev acts waiting n e old
    → 2 ≤ (site_of old).limits.head → Quiet e old → Handles old n moves new → are_given (flags_of old) (acts_of moves) ≡ true → Leaves Rest L ev acts e old n moves new

-- Round after round, until nothing may go on.
abbrev pub RoundsLeave : Type 0
RoundsLeave = (L : List Item) (ev : Event) (acts : List Act) (turn : Turn) (e : Exchange) (old new : HttpConn) (n : ℕ) (moves : List Move) (stamp : Option ℕ) → Standing L ev acts turn n e old
    → 2 ≤ (site_of old).limits.head → stamp ≡ last_secs (L ++ In ev ∷ []) → Rest turn e old → RoundsOn stamp old n moves new → are_given (flags_of old) (acts_of moves) ≡ true
    → Leaves Rest L ev acts e old n moves new

-- ---- the end of a step

-- what holds where memory ran out: nothing is demanded of a connection that is shut
pub record LostEnds (site : Site) (c : ℕ) (e : Exchange) : Type 0 where
  pub replies_then : shut_for_memory (all_of e) c ≡ true → replies site c e ≡ true
  pub silent : is_silent_once_closed c e ≡ true
  pub no_sooner : begins_no_sooner site c e ≡ true
  pub demands : DemandsNothing site c e

-- what is given to a child may be given to it
abbrev pub may_be_given_at : Exchange → Act → Bool
may_be_given_at e act = may_be_given (all_of e) act

-- The rules of a step of connection c: what is written and started, and what is due by its end. Where memory ran out
-- what stands is right if the connection was shut for that.
pub record KeepsStep (site : Site) (c : ℕ) (lost : Bool) (s : Step) : Type 0 where
  pub replies_then : (lost ≡ true → shut_for_memory (all_of (goes_on site c s)) c ≡ true) → replies site c (goes_on site c s) ≡ true
  pub replies_end_then : replies_end c (exchanges_in site c s) ≡ true
  pub launches : each_act site c (is_right_start site c) s ≡ true
  pub talk_acts : each_act site c (is_right_talk_act site c) s ≡ true
  pub givings : each_act site c may_be_given_at s ≡ true
  pub in_turn : each_act site c (begins_in_turn site c) s ≡ true
  pub begins_then : begins site c (goes_on site c s) ≡ true
  pub answers_then : answers site c (goes_on site c s) ≡ true
  pub hops_then : hops site c (goes_on site c s) ≡ true
  pub continues_on : continues_then site c (goes_on site c s) ≡ true
  pub hears_then : hears site c (goes_on site c s) ≡ true
  pub talks_then : talks site c (goes_on site c s) ≡ true
  pub upgrades_then : upgrades site c (goes_on site c s) ≡ true
  pub says_then : says site c (goes_on site c s) ≡ true
  pub streams_then : streams site c (goes_on site c s) ≡ true
  pub no_sooner : begins_no_sooner site c (goes_on site c s) ≡ true
  pub children : ChildrenGood site c s

-- Behind an event all that is due is done: the moves keep step with the model, and at their end the rules are kept. The
-- exchanges that had ended with the event follow none that closes.
abbrev pub StepsKeepStep : Type 0
StepsKeepStep = (L : List Item) (ev : Event) (e : Exchange) (old new : HttpConn) (n : ℕ) (moves : List Move) (stamp : Option ℕ) → (s : Standing L ev [] waiting n e old)
    → list_all (is_silent_once_closed (number_of old)) s.over ≡ true → 2 ≤ (site_of old).limits.head → stamp ≡ last_secs (L ++ In ev ∷ []) → Apt e old → Steps stamp old n moves new
    → are_given (flags_of old) (acts_of moves) ≡ true
    → AreInStep (site_of old) (number_of old) e moves × KeepsStep (site_of old) (number_of old) new.lost (step_of L ev (acts_of moves))

-- .. and at their end the connection is at rest again, for the legs that were started.
abbrev pub StepsComeToRest : Type 0
StepsComeToRest = (L : List Item) (ev : Event) (e : Exchange) (old new : HttpConn) (n : ℕ) (moves : List Move) (stamp : Option ℕ) → Standing L ev [] waiting n e old → 2 ≤ (site_of old).limits.head
    → (site_of old).limits.output < 2 ^ 64 → stamp ≡ last_secs (L ++ In ev ∷ []) → Apt e old → Steps stamp old n moves new → are_given (flags_of old) (acts_of moves) ≡ true
    → (legs : List Started) × AtRest new (after_step L ev (acts_of moves)) (moved (site_of old) (number_of old) e moves) legs (next_after n (acts_of moves))
