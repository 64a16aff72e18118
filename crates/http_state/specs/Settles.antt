-- What becomes of a connection where an exchange is over.
use Rattle.std.specs.Prelude.{Bool, true, false, ◌&&◌, ◌≡◌, None}
use Rattle.exchange_stage.specs.declared.stage.Stage.{Stage}
use Rattle.exchange_stage.specs.declared.stage.Stage.TheVariants.{Answered, Reading}
use Rattle.exchange_request.specs.Knows.{is_taken}
use Rattle.conn_laws.specs.Hearing.{GoesOn}
use Rattle.conn_laws.specs.Moves.{Ending}
use Rattle.http_state.specs.declared.conn.HttpConn.{HttpConn}
use Rattle.http_state.specs.Kept.{front_of, flags_of, peer_of, site_of}
use Rattle.http_state.specs.Slot.{run_settled}

abbrev pub is_answered : Stage → Bool
is_answered Answered = true
is_answered _ = false

-- the whole answer stands, and no child is left
abbrev pub is_over : HttpConn → Bool
is_over conn = is_answered conn.stage && run_settled conn.run

-- what is held of the exchange then
abbrev pub ending_of : HttpConn → Ending
ending_of conn = record { closes = conn.closes; idled = conn.idled; lost = conn.lost; taken = is_taken conn.request }

-- the next exchange begins
pub record Follows (old new : HttpConn) : Type 0 where
  pub site : site_of new ≡ site_of old
  pub flags : flags_of new ≡ flags_of old
  pub peer_is : peer_of new ≡ peer_of old
  pub lost : new.lost ≡ old.lost
  pub cut : new.cut ≡ old.cut
  pub stage : new.stage ≡ Reading
  pub run : new.run ≡ None
  pub front : GoesOn (site_of old).limits (front_of old) (front_of new)

-- .. where the exchange is over, and nothing changes where it is not
pub record Settles (old new : HttpConn) : Type 0 where
  pub on : is_over old ≡ false → new ≡ old
  pub over : is_over old ≡ true → Follows old new

-- the whole answer stands, and closes the connection or doesn't
abbrev pub stood : Bool → HttpConn → HttpConn
stood closes conn = record conn { closes = closes; stage = Answered }
