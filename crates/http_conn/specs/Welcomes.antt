-- A handshake that is accepted (RFC 6455 4.2.2), and the acts of a step up to its accept text.
use Rattle.std.specs.Prelude.{ℕ, ◌≡◌, true, List, Option, Some, None, Ok}
use Rattle.host_base.specs.declared.launch.Launch.{Launch}
use Rattle.host_base.specs.declared.request.Request.{Request}
use Rattle.host_base.specs.declared.site.Mapped.{Mapped}
use Rattle.host_base.specs.declared.site.ScriptKind.TheVariants.{WebSocket}
use Rattle.ws_handshake.specs.Handshake.{accept_text, handshake}
use Rattle.trace_model.specs.Places.{kind_of, origins_of, place_of}
use Rattle.exchange_stage.specs.declared.stage.Stage.TheVariants.{Unstarted}
use Rattle.conn_laws.specs.Moves.{Move}
use Rattle.http_state.specs.declared.conn.HttpConn.{HttpConn}
use Rattle.http_conn.specs.declared.serve.Turns.{Turns}
use Rattle.http_conn.specs.declared.serve.Turns.TheVariants.{Greeted, Over, Spent}
use Rattle.http_state.specs.Begins.{Launches}
use Rattle.http_state.specs.Kept.{site_of}
use Rattle.http_state.specs.Deeds.{Deed, Part, Then, gives_all}
use Rattle.http_conn.specs.Parts.{Answers, Begins, Handles, Rounds, Serves, SomeRounds}
use Rattle.http_state.specs.Tells.{TellsMore, TellsTurn}
use Rattle.http_conn.specs.Writes.{acts_written, wrote}

-- ---- what is done

-- where it had its turn, its handshake was accepted, and that was written; then this is to be started
pub record Accepts (launch : Launch) (old : HttpConn) (n : ℕ) (moves : List Move) (new : HttpConn) : Type 0 where
  pub turn : TellsTurn old true
  pub hop : ℕ
  pub request : Request
  pub mapped : Mapped
  pub value : List ℕ
  pub stage_is : old.stage ≡ Unstarted hop request
  pub place : place_of (site_of old) request ≡ Ok mapped
  pub kind : kind_of (site_of old) mapped ≡ WebSocket
  pub taken : handshake request (origins_of (site_of old) mapped) ≡ Ok value
  pub launches : Launches old request mapped launch
  pub moves_are : moves ≡ gives_all (acts_written old.flags.c (accept_text value) true)
  pub is : new ≡ wrote (accept_text value) true old

-- what waits has its turn: it is begun as ever, or accepted
abbrev pub BeginsOr : Option Launch → Option ℕ → Deed
BeginsOr None stamp = Begins stamp
BeginsOr (Some launch) stamp = Part (Accepts launch)

-- a round that ends so, where something may go on
pub record GreetsRound (launch : Launch) (stamp : Option ℕ) (old : HttpConn) (n : ℕ) (moves : List Move) (new : HttpConn) : Type 0 where
  pub more : TellsMore old true
  pub does : Then (Answers stamp) (Part (Accepts launch)) old n moves new

-- rounds, the last of which ends so
abbrev pub GreetsAfter : Launch → Option ℕ → Deed
GreetsAfter launch stamp old n moves new = (turns : ℕ) × Then (Rounds turns stamp) (GreetsRound launch stamp) old n moves new

-- rounds, so many where as many were made as may be
abbrev pub RoundsOr : Turns → ℕ → Option ℕ → Deed
RoundsOr Over most stamp = SomeRounds stamp
RoundsOr Spent most stamp = Rounds most stamp
RoundsOr (Greeted launch) most stamp = GreetsAfter launch stamp

-- a step behind its event, up to the accept text of a handshake
abbrev pub Greets : Launch → Option ℕ → Deed
Greets launch stamp = Then (Answers stamp) (Then Handles (GreetsAfter launch stamp))

-- .. or up to its end, where none is accepted
abbrev pub ServesOr : Option Launch → Option ℕ → Deed
ServesOr None stamp = Serves stamp
ServesOr (Some launch) stamp = Greets launch stamp
