-- What a link answers, by what the socket of `tungstenite` gave in that call.
use Rattle.std.specs.Prelude.{◌≡◌, ◌⊎◌, ⊤, ℕ, List, [], ◌∷◌, Option, Some, Result, Ok, Err, IfErr}
use Rattle.host_base.specs.Outsides.{Rose}
use Rattle.tungstenite.specs.CloseCode.{close_code_of}
use Rattle.tungstenite.specs.Connection.{Effect, close_step, write_step}
use Rattle.websocket.specs.declared.error.Error.{Error as FrameError}
use Rattle.tungstenite.specs.Content.{text}
use Rattle.tungstenite.specs.Failure.{IsIo}
use Rattle.tungstenite.specs.Socket.{Flushed, Reads, Socket, Writes}
use Rattle.tungstenite.specs.declared.error.Error.{Error}
use Rattle.tungstenite.specs.declared.error.Error.TheVariants.{AlreadyClosed, ConnectionClosed}
use Rattle.tungstenite.specs.declared.message.CloseFrame.{CloseFrame}
use Rattle.tungstenite.specs.declared.message.Message.{Message}
use Rattle.tungstenite.specs.declared.message.Message.TheVariants as Kind
use Rattle.ws_link.specs.declared.answer.Linked.{Linked}
use Rattle.ws_link.specs.declared.answer.Said.{Said}
use Rattle.ws_link.specs.Pipe.{Directions, coming_of, going_of}
use Rattle.ws_link.specs.State.{LinkState}

-- a ping or a pong (RFC 6455 5.5.2 and 5.5.3)
abbrev pub IsPingOrPong : Message → Type 0
IsPingOrPong (Kind.Text s) = ⊥
IsPingOrPong (Kind.Binary s) = ⊥
IsPingOrPong (Kind.Ping s) = ⊤
IsPingOrPong (Kind.Pong s) = ⊤
IsPingOrPong (Kind.Close frame) = ⊥

-- so many reads that gave pings and pongs, the latest first
abbrev pub PassesAll : List Message → Socket Directions → Socket Directions → Type 0
PassesAll [] old new = new ≡ old
PassesAll (m ∷ ms) old new = (mid : Socket Directions) × PassesAll ms old mid × Reads coming_of mid new (Ok m) × IsPingOrPong m

-- what a read gave, and this answer says
abbrev pub Says : Linked → Result Message Error → Directions → Type 0
Says (Linked.Text words) read pipe = read ≡ Ok (Kind.Text words)
Says Linked.Binary read pipe = (s : List ℕ) × (read ≡ Ok (Kind.Binary s))
Says Linked.Closed read pipe = ((frame : Option CloseFrame) × (read ≡ Ok (Kind.Close frame))) ⊎ (read ≡ Err ConnectionClosed) ⊎ (read ≡ Err AlreadyClosed)
Says Linked.NotYet read pipe = IfErr read IsIo × (pipe.coming ≡ [])
Says Linked.Bad read pipe = ⊤
Says Linked.NoMemory read pipe = ⊤

-- one read, which gave what is answered; then its reply to a close may have been handed on
pub record IsRead (old new : Socket Directions) (answer : Linked) : Type 0 where
  pub read : Result Message Error
  pub after : Socket Directions
  pub reads : Reads coming_of old after read
  pub handed_on : (new ≡ after) ⊎ Flushed going_of after new
  pub says : Says answer read new.stream

-- pings and pongs, and then such a read
pub record IsAnswered (old new : LinkState) (answer : Linked) : Type 0 where
  pub passed : List Message
  pub before : Socket Directions
  pub passes : PassesAll passed old.socket before
  pub last : IsRead before new.socket answer
  pub count : new.refusals ≡ old.refusals

-- What `next` answers: what the last read of the call gave. Bad comes only where the count of refusals rose; want of
-- memory leaves the count alone, and nothing else is said of it.
abbrev pub Answers : Linked → LinkState → LinkState → Type 0
Answers (Linked.Text words) old new = IsAnswered old new (Linked.Text words)
Answers Linked.Binary old new = IsAnswered old new Linked.Binary
Answers Linked.Closed old new = IsAnswered old new Linked.Closed
Answers Linked.NotYet old new = IsAnswered old new Linked.NotYet
Answers Linked.Bad old new = Rose old.refusals new.refusals
Answers Linked.NoMemory old new = new.refusals ≡ old.refusals

-- a frame that was written whole
pub record IsWritten (old new : LinkState) (step : Result Effect FrameError) : Type 0 where
  pub writes : Writes going_of old.socket new.socket step
  pub nothing_waits : new.socket.output ≡ []
  pub count : new.refusals ≡ old.refusals

-- What `say` and `close` answer: Refused only where the count of refusals rose.
abbrev pub SaysStep : Said → LinkState → LinkState → Result Effect FrameError → Type 0
SaysStep Said.Done old new step = IsWritten old new step
SaysStep Said.Refused old new step = Rose old.refusals new.refusals
SaysStep Said.NoMemory old new step = new.refusals ≡ old.refusals

-- the frame of a text
abbrev pub text_step : LinkState → List ℕ → Result Effect FrameError
text_step link words = write_step link.socket.conn (text words)

-- the frame of a close with this code and no reason
abbrev pub code_step : LinkState → ℕ → Result Effect FrameError
code_step link code = close_step link.socket.conn (Some (close_code_of code, []))

-- ---- step by step

-- a copy of a text, or no memory
abbrev pub IsCopy : Linked → List ℕ → Type 0
IsCopy (Linked.Text words) bytes = words ≡ bytes
IsCopy Linked.Binary bytes = ⊥
IsCopy Linked.Closed bytes = ⊥
IsCopy Linked.NotYet bytes = ⊥
IsCopy Linked.Bad bytes = ⊥
IsCopy Linked.NoMemory bytes = ⊤

-- a read that gave a ping or a pong
pub record IsPassed (old new : LinkState) : Type 0 where
  pub message : Message
  pub reads : Reads coming_of old.socket new.socket (Ok message)
  pub kind : IsPingOrPong message
  pub count : new.refusals ≡ old.refusals

-- what one read gave is answered
pub record IsOnce (answer : Linked) (old new : LinkState) : Type 0 where
  pub read : IsRead old.socket new.socket answer
  pub count : new.refusals ≡ old.refusals

abbrev pub AnswersOnce : Linked → LinkState → LinkState → Type 0
AnswersOnce (Linked.Text words) old new = IsOnce (Linked.Text words) old new
AnswersOnce Linked.Binary old new = IsOnce Linked.Binary old new
AnswersOnce Linked.Closed old new = IsOnce Linked.Closed old new
AnswersOnce Linked.NotYet old new = IsOnce Linked.NotYet old new
AnswersOnce Linked.Bad old new = Rose old.refusals new.refusals
AnswersOnce Linked.NoMemory old new = new.refusals ≡ old.refusals

-- a ping or a pong needs no answer
pub record IsSame (message : Message) (old new : LinkState) : Type 0 where
  pub kind : IsPingOrPong message
  pub same : new ≡ old

-- a message was read
abbrev pub AnswersMessage : Linked → Message → LinkState → LinkState → Type 0
AnswersMessage (Linked.Text words) message old new = (message ≡ Kind.Text words) × (new ≡ old)
AnswersMessage Linked.Binary message old new = ((s : List ℕ) × (message ≡ Kind.Binary s)) × (new ≡ old)
AnswersMessage Linked.Closed message old new =
    ((frame : Option CloseFrame) × (message ≡ Kind.Close frame)) × Flushed going_of old.socket new.socket × (new.refusals ≡ old.refusals)
AnswersMessage Linked.NotYet message old new = ⊥
AnswersMessage Linked.Bad message old new = Rose old.refusals new.refusals
AnswersMessage Linked.NoMemory message old new = new.refusals ≡ old.refusals

-- a read failed
abbrev pub SaysError : Linked → Error → LinkState → LinkState → Type 0
SaysError (Linked.Text words) e old new = ⊥
SaysError Linked.Binary e old new = ⊥
SaysError Linked.Closed e old new = ((e ≡ ConnectionClosed) ⊎ (e ≡ AlreadyClosed)) × (new.refusals ≡ old.refusals)
SaysError Linked.NotYet e old new = IsIo e × (old.socket.stream.coming ≡ []) × (new.refusals ≡ old.refusals)
SaysError Linked.Bad e old new = Rose old.refusals new.refusals
SaysError Linked.NoMemory e old new = new.refusals ≡ old.refusals

pub record AnswersError (answer : Linked) (e : Error) (old new : LinkState) : Type 0 where
  pub says : SaysError answer e old new
  pub socket : new.socket ≡ old.socket

-- a write was tried
abbrev pub SaysWrite : Said → Result (Unit {0}) Error → LinkState → LinkState → Type 0
SaysWrite Said.Done sent old new = (sent ≡ Ok tt) × (new.refusals ≡ old.refusals)
SaysWrite Said.Refused sent old new = Rose old.refusals new.refusals
SaysWrite Said.NoMemory sent old new = new.refusals ≡ old.refusals

pub record AnswersWrite (said : Said) (sent : Result (Unit {0}) Error) (old new : LinkState) : Type 0 where
  pub says : SaysWrite said sent old new
  pub socket : new.socket ≡ old.socket

-- only pings and pongs were read so far
pub record HasPassed (old now : LinkState) : Type 0 where
  pub passed : List Message
  pub passes : PassesAll passed old.socket now.socket
  pub count : now.refusals ≡ old.refusals
