-- What may be done for a connection, as far as the bytes of its client are known.
use Rattle.std.specs.Prelude.{ℕ, ◌≡◌, ◌≤◌, Bool, true, false, not, ◌&&◌, List, Option}
use Rattle.host_trace.specs.declared.items.Why.{Why}
use Rattle.conn_flags.specs.View.{has_room}
use Rattle.trace_model.specs.Readings.{is_due}
use Rattle.exchange_request.specs.Knows.{KnowsRequest, is_looked_at, is_read, limits_of, reading_of}
use Rattle.exchange_stage.specs.declared.stage.Stage.{Stage}
use Rattle.exchange_stage.specs.declared.stage.Stage.TheVariants.{Reading, Refused, Unstarted}
use Rattle.http_state.specs.declared.conn.HttpConn.{HttpConn}
use Rattle.http_state.specs.Reasons.{ends_with, hears_at, is_done_with, why_of}
use Rattle.http_state.specs.Slot.{run_settled}

-- its client is done, or isn't
abbrev pub TellsDone : HttpConn → Bool → Type 0
TellsDone conn done = (bytes : List ℕ) (taken : ℕ) → 2 ≤ (limits_of conn.request).head → KnowsRequest conn.request bytes taken → done ≡ is_done_with conn bytes

-- nothing more is answered, begun or asked, or something may be
pub record TellsEnding (conn : HttpConn) (ending : Bool) : Type 0 where
  pub done : Bool
  pub tells : TellsDone conn done
  pub is : ending ≡ ends_with conn done

-- why it is to be shut
pub record TellsWhy (conn : HttpConn) (why : Option Why) : Type 0 where
  pub done : Bool
  pub tells : TellsDone conn done
  pub is : why ≡ why_of conn done

-- its client is to be asked, or isn't
pub record TellsAsk (conn : HttpConn) (due : Bool) : Type 0 where
  pub done : Bool
  pub tells : TellsDone conn done
  pub is : due ≡ (not (ends_with conn done) && has_room conn.flags && hears_at conn conn.stage && not conn.flags.asked)

-- the request waits for 100 Continue, or doesn't
abbrev pub TellsAwaited : HttpConn → Bool → Type 0
TellsAwaited conn awaited = (bytes : List ℕ) (taken : ℕ) → KnowsRequest conn.request bytes taken → is_read conn.request ≡ true
    → awaited ≡ is_due (reading_of conn.request bytes)

-- 100 Continue is due, or isn't
pub record TellsContinue (conn : HttpConn) (due : Bool) : Type 0 where
  pub done : Bool
  pub tells : TellsDone conn done
  pub awaited : Bool
  pub awaits : TellsAwaited conn awaited
  pub is : due ≡ (not (ends_with conn done) && awaited && not conn.continued)

-- a hop may begin, where the client is done or not: no child is left, and not too much waits to be sent
abbrev pub has_turn : HttpConn → Bool → Bool
has_turn conn done = not (ends_with conn done) && run_settled conn.run && has_room conn.flags

pub record TellsTurn (conn : HttpConn) (turn : Bool) : Type 0 where
  pub done : Bool
  pub tells : TellsDone conn done
  pub is : turn ≡ has_turn conn done

-- at this stage more can be done for the exchange
abbrev pub goes_at : HttpConn → Bool → Stage → Bool
goes_at conn done Reading = not (ends_with conn done) && not (is_looked_at conn.request)
goes_at conn done (Refused cause) = has_turn conn done
goes_at conn done (Unstarted hop request) = has_turn conn done
goes_at conn done _ = false

-- more can be done, or nothing can
pub record TellsMore (conn : HttpConn) (more : Bool) : Type 0 where
  pub done : Bool
  pub tells : TellsDone conn done
  pub is : more ≡ goes_at conn done conn.stage
