-- What is known of a connection behind an event in whose step no memory is taken, or is taken only where something is due.
use Rattle.std.specs.Prelude.{ℕ, ◌≡◌, ◌⊎◌, Bool, true, false, ◌&&◌, List, [], Option, Some, None, is_some}
use Rattle.host_trace.specs.declared.items.Event.{Event}
use Rattle.host_trace.specs.declared.items.Event.TheVariants.{Accepted, ClientGone, Exited, InputGone, Stop, Tick, WsBad, WsBinary, WsClosed}
use Rattle.child_core.specs.declared.ending.Outcome.{Outcome}
use Rattle.child_core.specs.declared.ending.Outcome.TheVariants.{Failed}
use Rattle.child_core.specs.Calls.{is_settled}
use Rattle.child_core.specs.Due.{acted, is_feed_due}
use Rattle.child_core.specs.View.{View}
use Rattle.trace_child.specs.Words.{is_filled}
use Rattle.trace_model.specs.Exchange.{Exchange, request_bytes}
use Rattle.exchange_request.specs.Knows.{is_looked_at}
use Rattle.exchange_stage.specs.declared.stage.Stage.{Stage}
use Rattle.exchange_stage.specs.declared.stage.Stage.TheVariants as At
use Rattle.exchange_laws.specs.Unanswered.{is_awaited}
use Rattle.conn_flags.specs.View.{has_room}
use Rattle.http_conn.specs.HttpConn.{HttpConn}
use Rattle.http_conn.specs.Kept.{is_reading, flags_of, number_of, site_of}
use Rattle.http_conn.specs.Ready.{outcome_of_run, undrained}
use Rattle.http_conn.specs.Slot.{run_settled}
use Rattle.http_stage_laws.specs.Inward.{is_running}
use Rattle.http_step_laws.specs.Standing.{ends_at}

-- ---- nothing is due that takes memory

-- no Feed is due for its child
abbrev pub Unfed : Option View → Type 0
Unfed run = (v : View) → run ≡ Some v → is_feed_due v ≡ false

-- .. and unless its script runs, what is due doesn't settle it
pub record IsCalmRun (running may : Bool) (v : View) : Type 0 where
  pub unfed : is_feed_due v ≡ false
  pub stays : running ≡ false → is_settled (acted may v) ≡ is_settled v

abbrev pub CalmRun : Bool → Bool → Option View → Type 0
CalmRun running may None = Unit {0}
CalmRun running may (Some v) = IsCalmRun running may v

-- what waits for its turn may not come
abbrev pub NoTurn : HttpConn → Type 0
NoTurn conn = (run_settled conn.run && has_room (flags_of conn)) ≡ false

-- by its stage: all that was heard was looked at, or nothing was heard; what waits may not come; and of a reply nothing
-- came
abbrev pub CalmAt : HttpConn → Exchange → Stage → Type 0
CalmAt conn e At.Reading = (is_looked_at conn.request ≡ true) ⊎ (request_bytes (number_of conn) e ≡ [])
CalmAt conn e (At.Refused cause) = NoTurn conn
CalmAt conn e (At.Unstarted hop request) = NoTurn conn
CalmAt conn e (At.Running leg) = (outcome_of_run conn.run ≡ None) × (undrained conn.run ≡ []) × (leg.ticked ≡ false)
CalmAt conn e At.Answered = Unit {0}
CalmAt conn e At.Silent = Unit {0}
CalmAt conn e stage = ⊥

-- 100 Continue doesn't wait to be written
abbrev pub LetOn : Exchange → HttpConn → Type 0
LetOn e conn = conn.continued ≡ false → is_awaited (site_of conn) (number_of conn) e ≡ false

pub record Calm (e : Exchange) (conn : HttpConn) : Type 0 where
  pub run : CalmRun (is_running conn.stage) (has_room (flags_of conn)) conn.run
  pub let_on : LetOn e conn
  pub at : CalmAt conn e conn.stage

-- something ends the connection, or nothing is due
abbrev pub Resting : Exchange → HttpConn → Type 0
Resting e conn = ((ends_at conn e ≡ true) × Unfed conn.run) ⊎ Calm e conn

-- ---- a Tick: a request was broken, or the run failed, or a reply may be due

abbrev pub RunTicked : Option Outcome → List ℕ → Bool → Type 0
RunTicked None undrained ticked = (undrained ≡ []) × (ticked ≡ true)
RunTicked (Some (Failed cause)) undrained ticked = Unit {0}
RunTicked (Some outcome) undrained ticked = ⊥

abbrev pub TickedAt : HttpConn → Stage → Type 0
TickedAt conn (At.Interrupted cause) = Unit {0}
TickedAt conn (At.Running leg) = RunTicked (outcome_of_run conn.run) (undrained conn.run) leg.ticked
TickedAt conn stage = ⊥

pub record IsTicked (e : Exchange) (conn : HttpConn) : Type 0 where
  pub unfed : Unfed conn.run
  pub let_on : LetOn e conn
  pub at : TickedAt conn conn.stage

-- ---- the end of a child: the next hop may come, or the exchange end, or one has ended

abbrev pub LeftAt : HttpConn → List Exchange → Stage → Type 0
LeftAt conn over At.Reading = is_filled over ≡ true
LeftAt conn over (At.Refused cause) = Unit {0}
LeftAt conn over (At.Unstarted hop request) = is_some conn.run ≡ true
LeftAt conn over At.Answered = Unit {0}
LeftAt conn over stage = ⊥

pub record IsLeft (e : Exchange) (conn : HttpConn) (over : List Exchange) : Type 0 where
  pub unfed : Unfed conn.run
  pub let_on : is_reading conn.stage ≡ false → LetOn e conn
  pub at : LeftAt conn over conn.stage

-- ---- behind an event, before which these exchanges had ended in its step

abbrev pub KnownBy : Event → Exchange → HttpConn → List Exchange → Type 0
KnownBy (Accepted peer) e conn over = Resting e conn
KnownBy (ClientGone d) e conn over = Resting e conn
KnownBy (InputGone k) e conn over = Resting e conn
KnownBy (WsBinary d) e conn over = Resting e conn
KnownBy (WsClosed d) e conn over = Resting e conn
KnownBy (WsBad d) e conn over = Resting e conn
KnownBy Stop e conn over = Resting e conn
KnownBy (Tick secs) e conn over = Resting e conn ⊎ IsTicked e conn
KnownBy (Exited k) e conn over = Resting e conn ⊎ IsLeft e conn over
KnownBy ev e conn over = Unit {0}

abbrev pub takes_little : Event → Bool
takes_little (Accepted peer) = true
takes_little (ClientGone d) = true
takes_little (InputGone k) = true
takes_little (WsBinary d) = true
takes_little (WsClosed d) = true
takes_little (WsBad d) = true
takes_little Stop = true
takes_little (Tick secs) = true
takes_little (Exited k) = true
takes_little ev = false

-- such an event is heard without memory: where it was wanting before it was shut
pub record MemoryIsKnown (ev : Event) (e : Exchange) (conn : HttpConn) (over : List Exchange) : Type 0 where
  pub shut : takes_little ev ≡ true → conn.lost ≡ true → (flags_of conn).shut ≡ true
  pub known : conn.lost ≡ false → KnownBy ev e conn over
