-- Why a connection is to be shut.
use Rattle.std.specs.Prelude.{Bool, true, false, ◌≡◌, ◌==◌, is_some, not, ◌&&◌, ◌||◌, List, ℕ, Option, Some, None, if◌then◌else◌}
use Rattle.host_base.specs.declared.cause.Cause.{Cause}
use Rattle.host_trace.specs.declared.items.Why.{Why}
use Rattle.host_trace.specs.declared.items.Why.TheVariants.{Cut, Done, Gone, Idle, NoMemory, Stopped}
use Rattle.request_reader.specs.Request.{is_begun}
use Rattle.conn_flags.specs.View.{View as Flags, is_live, may_write}
use Rattle.child_core.specs.Calls.{wants_more}
use Rattle.child_core.specs.View.{View}
use Rattle.exchange_request.specs.Knows.{is_taken}
use Rattle.exchange_stage.specs.declared.stage.Stage.{Stage}
use Rattle.exchange_stage.specs.declared.stage.Stage.TheVariants.{Reading, Running}
use Rattle.http_state.specs.declared.conn.HttpConn.{HttpConn}
use Rattle.http_state.specs.Kept.{is_reading}

-- the client ended its input, and these bytes begin no request
abbrev pub is_done_with : HttpConn → List ℕ → Bool
is_done_with conn bytes = conn.flags.ended && is_reading conn.stage && not (is_begun bytes)

-- a reply that had begun can't be finished, or else this
abbrev pub or_cut : Option Cause → Option Why → Option Why
or_cut None other = other
or_cut (Some cause) other = Some (Cut cause)

-- the first of the reasons that there are, where the client is done or not
abbrev pub why_of : HttpConn → Bool → Option Why
why_of conn done =
    if not (is_live conn.flags) then None
    else (if conn.lost then Some NoMemory
    else (if conn.flags.stopped then Some Stopped
    else (if conn.flags.gone then Some Gone
    else or_cut conn.cut (if conn.idled then Some Idle else (if conn.closing || conn.closes || done then Some Done else None)))))

-- once the server is to end, the connection is shut
abbrev pub Stops : Flags → Type 0
Stops m = m.stopped ≡ true → is_live m ≡ false

-- nothing more is answered, begun or asked, where the client is done or not
abbrev pub ends_with : HttpConn → Bool → Bool
ends_with conn done =
    not (may_write conn.flags) || conn.flags.stopped || conn.flags.gone || conn.lost || conn.idled || conn.closing || conn.closes || is_some conn.cut || done

-- ---- the client is asked

-- its script takes more of the body
abbrev pub takes_more_of : Option View → Bool
takes_more_of None = false
takes_more_of (Some v) = not (is_some v.outcome) && wants_more v

-- within a request that is being read, or within a body that is fed
abbrev pub hears_at : HttpConn → Stage → Bool
hears_at conn Reading = not conn.flags.ended
hears_at conn (Running leg) = leg.hop == 0 && not (is_taken conn.request) && takes_more_of conn.run
hears_at conn _ = false
