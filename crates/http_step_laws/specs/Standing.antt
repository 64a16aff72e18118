-- What is known of a connection within a step, between two parts.
use Rattle.std.specs.Prelude.{ℕ, ◌≡◌, Bool, true, false, not, ◌&&◌, ◌||◌, List, [], ◌∷◌, ◌++◌, Option, Some, None, is_some, length, ◌<◌, ◌^◌, ◌⊎◌, map}
use Rattle.host_base.specs.declared.site.Site.{Site}
use Rattle.host_trace.specs.declared.items.Act.TheVariants.{Write}
use Rattle.host_trace.specs.declared.items.Event.{Event}
use Rattle.host_trace.specs.declared.items.Act.{Act}
use Rattle.host_trace.specs.declared.items.Item.{Item}
use Rattle.host_trace.specs.declared.items.Item.TheVariants.{Out}
use Rattle.host_trace.specs.Projections.{child_out, shut_for_memory}
use Rattle.own_traces.specs.Whose.{next_after}
use Rattle.child_core.specs.declared.ending.Outcome.{Outcome}
use Rattle.child_core.specs.declared.ending.Outcome.TheVariants.{Output}
use Rattle.child_core.specs.Calls.{is_settled}
use Rattle.child_core.specs.View.{View}
use Rattle.trace_child.specs.ChildForm.{may_be_given}
use Rattle.trace_model.specs.Answers.{begins_in_turn}
use Rattle.trace_model.specs.Exchange.{Exchange, all_of, continue_text, pushed, reading, request_bytes}
use Rattle.trace_model.specs.Exchanges.{following}
use Rattle.trace_model.specs.Launches.{is_right_start}
use Rattle.trace_model.specs.Legs.{Leg as Started}
use Rattle.trace_model.specs.Readings.{is_bare}
use Rattle.trace_model.specs.Talks.{is_right_talk_act}
use Rattle.exchange_request.specs.Knows.{bare_of, is_looked_at, is_taken}
use Rattle.exchange_stage.specs.declared.stage.Leg.{Leg}
use Rattle.exchange_stage.specs.declared.stage.Stage.{Stage}
use Rattle.exchange_stage.specs.declared.stage.Stage.TheVariants.{Finishing, Interrupted, Rejected, Running, Starting}
use Rattle.exchange_laws.specs.Items.{is_unanswered}
use Rattle.exchange_laws.specs.Unanswered.{is_awaited}
use Rattle.conn_flags.specs.View.{has_room}
use Rattle.conn_flags.specs.Form.{given_all}
use Rattle.conn_flags.specs.Knows.{KnowsFlags}
use Rattle.child_laws.specs.Step.{Turn, begun, served, waiting}
use Rattle.child_laws.specs.Moves.{Deals, may_lose}
use Rattle.conn_laws.specs.Moves.{Move, AreInStep, acts_of, continues, gives, moved, settles}
use Rattle.http_conn.specs.HttpConn.{HttpConn}
use Rattle.http_conn.specs.Kept.{StandsFor, is_reading, flags_of, number_of, site_of}
use Rattle.http_conn.specs.Ready.{outcome_of_run, undrained}
use Rattle.http_conn.specs.Reasons.{ends_with, is_done_with}
use Rattle.http_conn.specs.Settles.{is_over}
use Rattle.http_stage_laws.specs.HeardStages.{HasHeard, StartsComeFirst}
use Rattle.http_stage_laws.specs.Inward.{Inward}
use Rattle.http_stage_laws.specs.Staged.{Lost, Staged}

-- ---- of the connection alone

-- memory ran out, and the Shut that says so is to come
abbrev pub is_early : HttpConn → Bool
is_early conn = conn.lost && not (flags_of conn).shut

-- ---- of its exchange

-- After these acts of the step of an event the exchange e goes on, or has just ended: it is the connection's, the next
-- child has number n, and in this turn is the last one.
pub record Standing (L : List Item) (ev : Event) (acts : List Act) (turn : Turn) (n : ℕ) (e : Exchange) (conn : HttpConn) : Type 0 where
  pub over : List Exchange
  pub legs : List Started
  pub front : StandsFor conn e
  pub flags : KnowsFlags (flags_of conn) (all_of e)
  pub staged : conn.lost ≡ false → Staged conn e legs
  pub lost : conn.lost ≡ true → Lost conn e legs
  pub children : Deals (site_of conn) (number_of conn) L ev acts e over (is_early conn) turn n legs conn.run
  pub heard : conn.lost ≡ false → HasHeard conn e
  pub inward : Inward conn
  -- of a connection that was not accepted nothing was heard
  pub unheard : (flags_of conn).accepted ≡ false → (request_bytes (number_of conn) e ≡ []) × (e.closed ≡ false)
  pub starts_first : StartsComeFirst e
  -- where memory ran out, and it is shut, it was shut for that
  pub for_memory : conn.lost ≡ true → (flags_of conn).shut ≡ true → shut_for_memory (all_of e) (number_of conn) ≡ true

-- nothing ends the connection, or something does
abbrev pub ends_at : HttpConn → Exchange → Bool
ends_at conn e = ends_with conn (is_done_with conn (request_bytes (number_of conn) e))

-- ---- before an answer

-- it must be given where something decided the run, or goes on where nothing did
abbrev pub goes_by : Option Outcome → Bool
goes_by None = true
goes_by (Some Output) = true
goes_by (Some outcome) = false

abbrev pub must_go : Stage → Option Outcome → Bool
must_go (Rejected cause bare) outcome = true
must_go (Interrupted cause) outcome = true
must_go (Running leg) outcome = goes_by outcome
must_go stage outcome = false

-- the output of an undecided run is as long as a number may be
abbrev pub ShortRun : Exchange → Option View → Type 0
ShortRun e None = Unit {0}
ShortRun e (Some v) = v.outcome ≡ None → length (child_out e.items v.number) < 2 ^ 64

-- by its stage: it is not on the way to be given; of a reply all was written that was handed out, and what came comes by
-- itself; and whether a broken request is bare is known
abbrev pub AptAt : HttpConn → Exchange → Stage → Type 0
AptAt conn e (Starting leg launch body whole) = ⊥
AptAt conn e (Finishing text closes) = ⊥
AptAt conn e (Interrupted cause) = bare_of conn.request ≡ is_bare (reading (site_of conn) (number_of conn) e)
AptAt conn e (Running leg) = (leg.text ≡ []) × (outcome_of_run conn.run ≡ None → leg.ticked ≡ true → undrained conn.run ≡ []) × ShortRun e conn.run
AptAt conn e stage = Unit {0}

pub record AptFound (e : Exchange) (conn : HttpConn) : Type 0 where
  pub at : AptAt conn e conn.stage
  pub goes : must_go conn.stage (outcome_of_run conn.run) ≡ true → ends_at conn e ≡ false
  -- 100 Continue waits only where nothing ends the connection
  pub let_on : is_unanswered conn.stage ≡ true → conn.continued ≡ false → is_awaited (site_of conn) (number_of conn) e ≡ true → ends_at conn e ≡ false

pub record Apt (e : Exchange) (conn : HttpConn) : Type 0 where
  pub unover : is_over conn ≡ false
  pub found : conn.lost ≡ false → AptFound e conn

-- .. once all was looked at
pub record Read (e : Exchange) (conn : HttpConn) : Type 0 where
  pub apt : Apt e conn
  pub looked : conn.lost ≡ false → ends_at conn e ≡ false → (is_looked_at conn.request || is_taken conn.request) ≡ true

-- .. and 100 Continue stands where it was due
pub record LetOn (e : Exchange) (conn : HttpConn) : Type 0 where
  pub read : Read e conn
  pub none : conn.lost ≡ false → is_unanswered conn.stage ≡ true → conn.continued ≡ false → is_awaited (site_of conn) (number_of conn) e ≡ false

-- ---- what is ready

abbrev pub ReadyAt : HttpConn → Exchange → Stage → Type 0
ReadyAt conn e (Rejected cause bare) = ⊥
ReadyAt conn e (Interrupted cause) = ⊥
ReadyAt conn e (Starting leg launch body whole) = ⊥
ReadyAt conn e (Running leg) = (outcome_of_run conn.run ≡ None) × (undrained conn.run ≡ []) × (leg.ticked ≡ false)
ReadyAt conn e stage = Unit {0}

abbrev pub gives_at : Stage → Bool
gives_at (Running leg) = true
gives_at (Finishing text closes) = true
gives_at stage = false

-- what is due of the answer is ready to be given
pub record Ready (e : Exchange) (conn : HttpConn) : Type 0 where
  pub found : conn.lost ≡ false
  pub unover : is_over conn ≡ false
  pub at : ReadyAt conn e conn.stage
  pub on : gives_at conn.stage ≡ true → ends_at conn e ≡ false
  pub none : is_unanswered conn.stage ≡ true → conn.continued ≡ false → is_awaited (site_of conn) (number_of conn) e ≡ false

-- ---- behind it

-- by what decided the run
abbrev pub RunQuiet : HttpConn → Exchange → Leg → Option Outcome → Type 0
RunQuiet conn e leg None = (undrained conn.run ≡ []) × (leg.ticked ≡ false) × (ends_at conn e ≡ false)
RunQuiet conn e leg (Some Output) = ⊥
RunQuiet conn e leg (Some outcome) = ends_at conn e ≡ true

abbrev pub QuietBy : HttpConn → Exchange → Stage → Type 0
QuietBy conn e (Rejected cause bare) = ⊥
QuietBy conn e (Interrupted cause) = ⊥
QuietBy conn e (Starting leg launch body whole) = ⊥
QuietBy conn e (Finishing text closes) = ⊥
QuietBy conn e (Running leg) = (leg.text ≡ []) × RunQuiet conn e leg (outcome_of_run conn.run)
QuietBy conn e stage = Unit {0}

pub record QuietFound (e : Exchange) (conn : HttpConn) : Type 0 where
  pub quiet : QuietBy conn e conn.stage
  -- 100 Continue waits only where bytes wait that nobody has looked at, and nothing ends the connection
  pub let_on : is_unanswered conn.stage ≡ true → conn.continued ≡ false → is_awaited (site_of conn) (number_of conn) e ≡ true
      → (ends_at conn e ≡ false) × (is_looked_at conn.request ≡ false) × (is_reading conn.stage ≡ true)

-- nothing is due of the answer, nor of the child
pub record Quiet (e : Exchange) (conn : HttpConn) : Type 0 where
  pub unover : is_over conn ≡ false
  pub found : conn.lost ≡ false → QuietFound e conn

-- ---- what a part is to keep

-- a Start is right, an answer begins in its turn, an Upgrade is right, and what is given to a child may be given to it
pub record IsRight (site : Site) (c : ℕ) (e : Exchange) (act : Act) : Type 0 where
  pub start : is_right_start site c e act ≡ true
  pub in_turn : begins_in_turn site c e act ≡ true
  pub upgrade : is_right_talk_act site c e act ≡ true
  pub may : may_be_given (all_of e) act ≡ true

-- each act is right; and an exchange that is taken for ended follows none that closes
abbrev pub AreRight : Site → ℕ → Exchange → List Move → Type 0
AreRight site c e [] = Unit {0}
AreRight site c e (gives act ∷ moves) =
    IsRight site c e act × AreRight site c (pushed e (Out act)) moves
AreRight site c e (continues d ∷ moves) =
    (begins_in_turn site c e (Write d continue_text) ≡ true) × AreRight site c (pushed e (Out (Write d continue_text))) moves
AreRight site c e (settles ending ∷ moves) = (e.closed ≡ false) × AreRight site c (following site c e) moves

-- what is said where it is done, by the turn of the child, the exchange and the connection
abbrev pub Claim : Type 1
Claim = Turn → Exchange → HttpConn → Type 0

-- .. which is still this turn, in which memory may run out
abbrev pub Within : Turn → (Exchange → HttpConn → Type 0) → Claim
Within at Post turn e conn = (turn ≡ at) × (may_lose at conn.run ≡ true) × Post e conn

-- The moves keep step with the model, and the connection stands where they lead.
pub record Leaves (Post : Claim) (L : List Item) (ev : Event) (acts : List Act) (e : Exchange) (old : HttpConn) (n : ℕ) (moves : List Move) (new : HttpConn) : Type 0 where
  pub site : site_of new ≡ site_of old
  pub flags : flags_of new ≡ given_all (flags_of old) (acts_of moves)
  pub in_step : AreInStep (site_of old) (number_of old) e moves
  pub right : AreRight (site_of old) (number_of old) e moves
  pub turn : Turn
  pub standing : Standing L ev (acts ++ acts_of moves) turn (next_after n (acts_of moves)) (moved (site_of old) (number_of old) e moves) new
  pub post : Post turn (moved (site_of old) (number_of old) e moves) new

-- Nothing is left to be given to the last child, which was served or started in the step.
abbrev pub EvenAt : Bool → Turn → Option View → Type 0
EvenAt room turn None = Unit {0}
EvenAt room waiting (Some v) = ⊥
EvenAt room begun (Some v) = Unit {0}
EvenAt room (served may) (Some v) = is_some v.outcome ≡ false → is_settled v ≡ false → may ≡ room

-- it is no child that waits to be served
abbrev pub IsAwake : Turn → Type 0
IsAwake waiting = ⊥
IsAwake begun = Unit {0}
IsAwake (served may) = Unit {0}

-- nothing is due of the answer, and nothing is left to be given to the child
abbrev pub Rest : Claim
Rest turn e conn = IsAwake turn × Quiet e conn × EvenAt (has_room (flags_of conn)) turn conn.run

-- memory ran out of a connection that was shut already, or these acts shut it for that
abbrev pub WasShut : HttpConn → List Act → Type 0
WasShut old acts = ((old.lost ≡ true) × ((flags_of old).shut ≡ true)) ⊎ (shut_for_memory (map Out acts) (number_of old) ≡ true)

-- what a law on one part shows, beside what is known of every part
pub record Makes (Post : Claim) (L : List Item) (ev : Event) (acts : List Act) (e : Exchange) (old : HttpConn) (n : ℕ) (moves : List Move) (new : HttpConn) : Type 0 where
  pub in_step : AreInStep (site_of old) (number_of old) e moves
  pub right : AreRight (site_of old) (number_of old) e moves
  pub turn : Turn
  pub over : List Exchange
  pub legs : List Started
  pub staged : new.lost ≡ false → Staged new (moved (site_of old) (number_of old) e moves) legs
  pub lost : new.lost ≡ true → Lost new (moved (site_of old) (number_of old) e moves) legs
  pub children : Deals (site_of new) (number_of new) L ev (acts ++ acts_of moves) (moved (site_of old) (number_of old) e moves) over (is_early new) turn
      (next_after n (acts_of moves)) legs new.run
  pub heard : new.lost ≡ false → HasHeard new (moved (site_of old) (number_of old) e moves)
  pub inward : Inward new
  pub accepted : (flags_of old).accepted ≡ true
  pub starts_first : StartsComeFirst (moved (site_of old) (number_of old) e moves)
  pub memory : new.lost ≡ true → (flags_of new).shut ≡ true → WasShut old (acts_of moves)
  pub post : Post turn (moved (site_of old) (number_of old) e moves) new
