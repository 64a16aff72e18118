-- What a call of a socket does to the bytes of its client, where it tells them.
use Rattle.std.specs.Prelude.{ℕ, ◌≤◌, ◌≡◌, Bool, true, false, List, [], take, drop, Option}
use Rattle.std.specs.Io.KnownBytes.{Appends, Consumes, IsAtEnd, append_known}
use Rattle.host_base.specs.Outsides.{Rose}
use Rattle.socket_set.specs.declared.socket.Received.{Received}
use Rattle.socket_set.specs.declared.socket.Received.TheVariants as Got
use Rattle.socket_set.specs.declared.socket.Sent.{Sent}
use Rattle.socket_set.specs.declared.socket.Sent.TheVariants as Put

pub record SocketTells : Type 0 where
  -- the bytes that its client has still to give, and those that it took for it, where they are told
  pub left : Option (List ℕ)
  pub taken : Option (List ℕ)
  -- the last read found that nothing has come, and the last write took nothing
  pub dry : Bool
  pub full : Bool
  -- how often a read or a write failed
  pub faults : ℕ

abbrev pub has_nothing : Received → Bool
has_nothing Got.Nothing = true
has_nothing _ = false

abbrev pub took_nothing : Sent → Bool
took_nothing (Put.Took n) = false
took_nothing _ = true

-- a read takes bytes from those that are left, and the end comes only where none are
abbrev pub Gives : Option (List ℕ) → Option (List ℕ) → List ℕ → Received → Type 0
Gives before after into (Got.Bytes n) = Consumes before after (take n into)
Gives before after into Got.Nothing = Consumes before after []
Gives before after into Got.End = Consumes before after [] × IsAtEnd after
Gives before after into Got.Failed = Consumes before after []

-- a write adds a front of the piece to those that it took
abbrev pub Takes : Option (List ℕ) → Option (List ℕ) → List ℕ → Sent → Type 0
Takes before after from (Put.Took n) = Appends before after (take n from)
Takes before after from Put.Full = Appends before after []
Takes before after from Put.Failed = Appends before after []

-- a read failed only where the count of faults rose
abbrev pub ReceiveCause : ℕ → ℕ → Received → Type 0
ReceiveCause before after Got.Failed = Rose before after
ReceiveCause before after _ = before ≤ after

abbrev pub SendCause : ℕ → ℕ → Sent → Type 0
SendCause before after Put.Failed = Rose before after
SendCause before after _ = before ≤ after

pub record Receives (old new : SocketTells) (into : List ℕ) (received : Received) : Type 0 where
  pub bytes : Gives old.left new.left into received
  pub taken : new.taken ≡ old.taken
  pub dry : new.dry ≡ has_nothing received
  pub full : new.full ≡ old.full
  pub cause : ReceiveCause old.faults new.faults received

pub record Sends (old new : SocketTells) (from : List ℕ) (sent : Sent) : Type 0 where
  pub bytes : Takes old.taken new.taken from sent
  pub left : new.left ≡ old.left
  pub dry : new.dry ≡ old.dry
  pub full : new.full ≡ took_nothing sent
  pub cause : SendCause old.faults new.faults sent

-- of the bytes that its client has still to give a front may still be read
pub record EndsReceiving (old new : SocketTells) : Type 0 where
  pub cut : List ℕ
  pub left : Appends new.left old.left cut
  pub rest : new ≡ record old { left = new.left }

-- What was taken and what waits are, in this order, what was taken and what waited before, and then `more`: nothing
-- is lost, and nothing is sent twice.
abbrev pub Moves : Option (List ℕ) → List ℕ → Option (List ℕ) → List ℕ → List ℕ → Type 0
Moves before waited after waits more = Appends (append_known before waited) (append_known after waits) more

-- what waits after a write
abbrev pub left_after : List ℕ → Sent → List ℕ
left_after waited (Put.Took n) = drop n waited
left_after waited Put.Full = waited
left_after waited Put.Failed = waited
