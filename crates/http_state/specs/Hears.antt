-- What an event makes of a connection: of its child, its stage and its request.
use Rattle.std.specs.Prelude.{ℕ, ◌≡◌, ◌≤◌, ◌==◌, ◌-◌, ◌++◌, Bool, true, false, not, ◌&&◌, ◌||◌, List, Option, Some, None, is_some, if◌then◌else◌}
use Rattle.host_base.specs.declared.cause.Cause.{Cause}
use Rattle.host_base.specs.declared.cause.Cause.TheVariants as Causes
use Rattle.host_base.specs.declared.launch.Peer.{Peer}
use Rattle.host_trace.specs.declared.items.Event.{Event}
use Rattle.host_trace.specs.declared.items.Event.TheVariants.{Accepted, ClientBytes, ClientEof, ClientGone, WsBad, NoRoom, Tick}
use Rattle.host_trace.specs.declared.items.Item.TheVariants.{In}
use Rattle.host_trace.specs.First.{or_else}
use Rattle.child_core.specs.declared.ending.Ending.TheVariants.{Gone, Incomplete}
use Rattle.child_core.specs.Calls.{heard, is_kept, offered}
use Rattle.child_core.specs.View.{View}
use Rattle.conn_flags.specs.View.{noted}
use Rattle.request_reader.specs.Request.{is_begun}
use Rattle.exchange_request.specs.Knows.{HandsOut, KnowsRequest, is_looked_at, is_ready, is_taken, limits_of}
use Rattle.exchange_request.specs.declared.incoming.Incoming.{Incoming}
use Rattle.trace_model.specs.Exchange.{Exchange, pushed}
use Rattle.exchange_stage.specs.declared.stage.Stage.{Stage}
use Rattle.exchange_stage.specs.declared.stage.Stage.TheVariants.{Interrupted, Reading, Refused, Running, Unstarted}
use Rattle.http_state.specs.declared.conn.HttpConn.{HttpConn}
use Rattle.http_state.specs.Kept.{StandsFor, is_reading, is_settled_as, site_of}
use Rattle.http_state.specs.Moves.{ended_run, grown_stage, losing, ticked_stage}
use Rattle.http_state.specs.Settles.{Settles, is_answered}
use Rattle.http_state.specs.Slot.{run_settled}

-- ---- what its child hears

-- where there was room for what the event carries, or not
abbrev pub heard_run : Event → Bool → Option View → Option View
heard_run ev found None = None
heard_run ev found (Some v) = Some (heard v ev found)

-- the event carries output that is kept
abbrev pub keeps_of : Option View → Event → Bool
keeps_of None ev = false
keeps_of (Some v) ev = is_kept v ev

abbrev pub told_run : Event → Bool → HttpConn → HttpConn
told_run ev true conn = record conn { run = heard_run ev true conn.run }
told_run ev false conn = losing (record conn { run = heard_run ev false conn.run })

-- ---- the request is broken

-- no script was started for it, and nothing of an answer is ready
abbrev pub is_untouched_at : Stage → Bool
is_untouched_at Reading = true
is_untouched_at (Refused cause) = true
is_untouched_at (Unstarted hop request) = true
is_untouched_at _ = false

abbrev pub is_untouched : HttpConn → Bool
is_untouched conn = is_untouched_at conn.stage && not (is_some conn.run)

-- whether a request has begun
abbrev pub TellsBegun : Incoming → Bool → Type 0
TellsBegun i begun = (bytes : List ℕ) (taken : ℕ) → KnowsRequest i bytes taken → 2 ≤ (limits_of i).head → begun ≡ is_begun bytes

abbrev pub broken_if : Bool → Cause → HttpConn → HttpConn
broken_if true cause conn = record conn { stage = Interrupted cause }
broken_if false cause conn = conn

-- it is broken where one has begun
pub record BreaksBegun (cause : Cause) (old new : HttpConn) : Type 0 where
  pub begun : Bool
  pub tells : TellsBegun old.request begun
  pub is : new ≡ broken_if begun cause old

abbrev pub BreaksBy : Bool → Cause → HttpConn → HttpConn → Type 0
BreaksBy true cause old new = BreaksBegun cause old new
BreaksBy false cause old new = new ≡ old

-- .. and nothing was done for it, on a connection that is not shut
abbrev pub Interrupts : Cause → HttpConn → HttpConn → Type 0
Interrupts cause old new = BreaksBy (is_untouched old && not old.flags.shut) cause old new

-- ---- the end of the client's input

-- within the request: its script's run is cut short, or the request is broken
abbrev pub EndsAt : Stage → HttpConn → HttpConn → Type 0
EndsAt (Running leg) old new = new ≡ record old { run = if leg.hop == 0 then ended_run Incomplete old.run else old.run }
EndsAt stage old new = Interrupts Causes.Incomplete old new

abbrev pub EndsBy : Bool → HttpConn → HttpConn → Type 0
EndsBy true old new = new ≡ old
EndsBy false old new = EndsAt old.stage old new

abbrev pub HearsEnd : HttpConn → HttpConn → Type 0
HearsEnd old new = EndsBy (is_taken old.request) old new

-- ---- a Tick

abbrev pub IdlesBy : Bool → HttpConn → HttpConn → Type 0
IdlesBy true old new = Interrupts Causes.IdleTime old new
IdlesBy false old new = new ≡ record old { idled = old.idled || is_some old.peer }

-- the client has sent nothing for the idle time
pub record IdleEnds (old new : HttpConn) : Type 0 where
  pub begun : Bool
  pub tells : TellsBegun old.request begun
  pub by : IdlesBy begun old new

abbrev pub CountsDown : Bool → HttpConn → HttpConn → Type 0
CountsDown true old new = IdleEnds old new
CountsDown false old new = new ≡ old

-- it counts where no child is left
abbrev pub TicksBy : Bool → HttpConn → HttpConn → Type 0
TicksBy true old new = CountsDown (old.idle_left == 1) (record old { idle_left = old.idle_left - 1 }) new
TicksBy false old new = new ≡ old

abbrev pub HearsTick : HttpConn → HttpConn → Type 0
HearsTick old new = TicksBy (run_settled old.run) (record old { stage = ticked_stage old.stage }) new

-- ---- bytes of the client

-- Memory ran out: the connection is over and its child given up; its stage may be another, but no answer stands whole
-- that didn't.
pub record RunsOut (old new : HttpConn) : Type 0 where
  pub is : new ≡ losing (record old { stage = new.stage; request = new.request })
  pub answered : is_answered new.stage ≡ is_answered old.stage

-- the script of the first hop runs, and not all of the body was offered to it
abbrev pub takes_body : Stage → Option View → Bool
takes_body (Running leg) (Some v) = leg.hop == 0 && not v.whole
takes_body _ _ = false

abbrev pub offered_run : Bool → List ℕ → Bool → Option View → Option View
offered_run true body whole (Some v) = Some (offered v body whole)
offered_run _ body whole run = run

-- a script that waits for its turn keeps what came of the body, and one that runs is offered it
abbrev pub with_more : List ℕ → HttpConn → HttpConn
with_more body conn = record conn {
  stage = grown_stage body conn.stage;
  run = offered_run (takes_body conn.stage conn.run) body (is_taken conn.request) conn.run;
}

abbrev pub Offers : Bool → List ℕ → HttpConn → HttpConn → Type 0
Offers true body old new = new ≡ with_more body old
Offers false body old new = RunsOut old new

-- what came of the body was handed out
pub record TakesBody (old new : HttpConn) : Type 0 where
  pub request : Incoming
  pub body : List ℕ
  pub limits : limits_of request ≡ limits_of old.request
  pub ready : is_ready request ≡ is_ready old.request
  pub hands : (bytes : List ℕ) (taken : ℕ) → KnowsRequest old.request bytes taken → HandsOut request bytes taken body
  pub is : new ≡ with_more body (record old { request = request })

abbrev pub BodyBy : Bool → Bool → HttpConn → HttpConn → Type 0
BodyBy true true old new = TakesBody old new
BodyBy true false old new = RunsOut old new
BodyBy false found old new = new ≡ old

-- its request was found ready, and is not whole
abbrev pub awaits_body : HttpConn → Bool
awaits_body conn = not (is_reading conn.stage) && not (is_taken conn.request) && is_ready conn.request

-- where memory was found, or wanting
abbrev pub HearsBody : Bool → HttpConn → HttpConn → Type 0
HearsBody found old new = BodyBy (awaits_body old) found old new

-- they were heard for the request
pub record Feeds (bytes : List ℕ) (found : Bool) (old new : HttpConn) : Type 0 where
  pub request : Incoming
  pub limits : limits_of request ≡ limits_of old.request
  pub ready : is_ready request ≡ is_ready old.request
  pub taken_is : is_taken request ≡ is_taken old.request
  pub looked : is_looked_at request ≡ false
  pub knows : (heard : List ℕ) (taken : ℕ) → KnowsRequest old.request heard taken → 2 ≤ (limits_of old.request).head → KnowsRequest request (heard ++ bytes) taken
  pub body : HearsBody found (record old { idle_left = (site_of old).limits.idle_ticks; request = request }) new

abbrev pub FeedsBy : Bool → List ℕ → Bool → HttpConn → HttpConn → Type 0
FeedsBy true bytes found old new = Feeds bytes found old new
FeedsBy false bytes found old new = new ≡ losing (record old { idle_left = (site_of old).limits.idle_ticks })

-- there was room for them or not, and then for what came of the body
pub record HearsBytes (bytes : List ℕ) (old new : HttpConn) : Type 0 where
  pub fed : Bool
  pub found : Bool
  pub by : FeedsBy fed bytes found old new

-- ---- all events

abbrev pub When : Bool → (HttpConn → HttpConn → Type 0) → HttpConn → HttpConn → Type 0
When true By old new = By old new
When false By old new = new ≡ old

-- the client was accepted
abbrev pub accepted : Peer → HttpConn → HttpConn
accepted peer conn = record conn { idle_left = (site_of conn).limits.idle_ticks; peer = or_else conn.peer (Some peer) }

abbrev pub Loses : HttpConn → HttpConn → Type 0
Loses old new = new ≡ losing old

abbrev pub Goes : HttpConn → HttpConn → Type 0
Goes old new = new ≡ record old { run = ended_run Gone old.run }

-- what it makes of the connection beside its child's own events
abbrev pub HearsOwn : Event → HttpConn → HttpConn → Type 0
HearsOwn (Accepted peer) old new = new ≡ accepted peer old
HearsOwn (ClientBytes c bytes) old new = When (old.flags.c == c) (HearsBytes bytes) old new
HearsOwn (ClientEof c) old new = When (old.flags.c == c) HearsEnd old new
HearsOwn (ClientGone c) old new = When (old.flags.c == c) Goes old new
HearsOwn (WsBad c) old new = When (old.flags.c == c) Goes old new
HearsOwn (NoRoom c) old new = When (old.flags.c == c) Loses old new
HearsOwn (Tick secs) old new = HearsTick old new
HearsOwn _ old new = new ≡ old

-- An event was heard: by the flags, by the child, where there was room for its output (`found`), and by the rest. Memory
-- that was wanting stays so, and what was known of the exchange beside its script is known with the event. And where the
-- exchange is over then, the next one begins.
pub record Hears (old : HttpConn) (ev : Event) (new : HttpConn) : Type 0 where
  pub found : Bool
  pub memory : found ≡ false → keeps_of old.run ev ≡ true
  pub mid : HttpConn
  pub own : HearsOwn ev (told_run ev found (record old { flags = noted old.flags (In ev) })) mid
  pub lasts : (told_run ev found old).lost ≡ true → mid.lost ≡ true
  pub keeps : (e : Exchange) → 2 ≤ (site_of old).limits.head → run_settled old.run ≡ is_settled_as old e → StandsFor old e → StandsFor mid (pushed e (In ev))
  pub settles : Settles mid new
