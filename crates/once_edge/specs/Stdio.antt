-- What the client at standard input and output tells.
use Rattle.std.specs.Prelude.{◌≡◌, ℕ, List, [], ◌++◌, take, Option, Some, None, true, ⊤}
use Rattle.std.specs.Io.KnownBytes.{IsAtEnd}
use Rattle.host_base.specs.Outsides.{Puts as PutsAll, PutsPart}
use Rattle.pipe_pump.specs.declared.ends.PumpEnd.{PumpEnd}
use Rattle.pipe_pump.specs.declared.ends.PumpEnd.TheVariants.{AtEnd}
use Rattle.pipe_pump.specs.Rings.{handed_up, standing}
use Rattle.pipe_pump.specs.Moved.{Gives}
use Rattle.child_edge.specs.Kids.{is_failed}
use Rattle.socket_set.specs.Sockets.{SocketTells}
use Rattle.socket_set.specs.declared.socket.Received.{Received}
use Rattle.socket_set.specs.declared.socket.Received.TheVariants as Got
use Rattle.socket_set.specs.declared.socket.Sent.{Sent}
use Rattle.socket_set.specs.declared.socket.Sent.TheVariants as Put
use Rattle.once_edge.specs.declared.socket.StdioSocket.{StdioSocket}

-- what is left of a client's bytes where its pump came to their end
abbrev pub left_where : Option PumpEnd → List ℕ → Option (List ℕ)
left_where (Some AtEnd) standing = Some standing
left_where _ standing = None

-- the pump ended otherwise
abbrev pub IsFailedEnd : Option PumpEnd → Type 0
IsFailedEnd None = ⊥
IsFailedEnd (Some end) = is_failed end ≡ true

-- these bytes are what a pipe gave from its first one on, by the end of its pump; where that came to the end, all
pub record Gave {P : Type 0} (left : P → Option (List ℕ)) (pipe : P) (end : PumpEnd) (bytes : List ℕ) : Type 0 where
  pub after : Option (List ℕ)
  pub moved : Gives end (left pipe) after bytes
  pub at_end : end ≡ AtEnd → IsAtEnd after

-- the bytes that a read gave
abbrev pub heard_in : Received → List ℕ → List ℕ
heard_in (Got.Bytes n) into = take n into
heard_in Got.Nothing into = []
heard_in Got.End into = []
heard_in Got.Failed into = []

module _ {P K : Type 0} where
  -- what is left is known once the pump came to the end of the bytes
  abbrev pub socket_tells : StdioSocket P K → SocketTells
  socket_tells s = record { left = left_where s.end (standing s.tap); taken = None; dry = s.dry; full = s.full; faults = s.faults }

  -- all bytes of the client that were given
  abbrev pub heard_by : StdioSocket P K → List ℕ
  heard_by s = handed_up s.tap

  -- .. and then those that are known to stand in the ring
  abbrev pub all_heard : StdioSocket P K → List ℕ
  all_heard s = handed_up s.tap ++ standing s.tap

  -- the pump is not known to have ended, and no byte is known to stand in the ring
  pub record IsDry (s : StdioSocket P K) : Type 0 where
    pub runs : s.end ≡ None
    pub empty : standing s.tap ≡ []

  -- the end comes only where the pump came to the end and nothing is left, and a failure only where it ended otherwise
  abbrev pub Ends : StdioSocket P K → Received → Type 0
  Ends s (Got.Bytes n) = ⊤
  Ends s Got.Nothing = ⊤
  Ends s Got.End = (s.end ≡ Some AtEnd) × (standing s.tap ≡ [])
  Ends s Got.Failed = IsFailedEnd s.end

  -- all was put into the sink, or a front where it failed
  abbrev pub Puts : (K → Option (List ℕ)) → StdioSocket P K → StdioSocket P K → List ℕ → Sent → Type 0
  Puts written old new from (Put.Took n) = PutsAll (written old.sink) (take n from) (written new.sink)
  Puts written old new from Put.Full = written new.sink ≡ written old.sink
  Puts written old new from Put.Failed = PutsPart (written old.sink) from (written new.sink)
