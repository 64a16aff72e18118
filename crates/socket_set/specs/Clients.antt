-- What the set holds of each client, and what an event says of it.
use Rattle.std.specs.Prelude.{◌≡◌, ℕ, ◌≤◌, ◌<◌, nat_lt, ◌+◌, ◌-◌, ◌^◌, ◌⊎◌, min, Bool, true, false, not, ◌&&◌, if◌then◌else◌, List, [], ◌++◌, length, Option, Some, None}
use Rattle.std.specs.Io.KnownBytes.{Consumes, IsAtEnd}
use Rattle.host_trace.specs.declared.items.Event.{Event}
use Rattle.host_trace.specs.declared.items.Event.TheVariants.{ClientBytes, ClientEof, ClientGone, Wrote, WsText, WsBinary, WsClosed, WsBad, NoRoom}
use Rattle.host_trace.specs.Told.{is_failure}
use Rattle.host_base.specs.Outsides.{Rose}
use Rattle.ws_link.specs.declared.answer.Linked.{Linked}
use Rattle.ws_link.specs.declared.answer.Linked.TheVariants as Link
use Rattle.socket_set.specs.Devices.{PortsTell}
use Rattle.socket_set.specs.Sockets.{SocketTells, Moves, EndsReceiving}

pub record ClientState : Type 0 where
  -- what its socket tells
  pub socket : SocketTells
  -- the bytes that wait to be sent
  pub outgoing : List ℕ
  -- how many bytes were written, or said since it was upgraded, and not told to have left
  pub untold : ℕ
  -- one event of it is asked for
  pub wanted : Bool
  pub upgraded : Bool
  -- that it failed, or that there was no room, is to be told before all else
  pub troubled : Bool
  -- it is over, and what waits is still sent
  pub shut : Bool

-- whether one event of a client is still asked for after this one
abbrev pub wanted_after : Event → Bool → Bool
wanted_after (Wrote c n) wanted = wanted
wanted_after _ wanted = false

abbrev pub state_of : SocketTells → List ℕ → ℕ → Bool → Bool → Bool → Bool → ClientState
state_of socket outgoing untold wanted upgraded troubled shut =
    record { socket = socket; outgoing = outgoing; untold = untold; wanted = wanted; upgraded = upgraded; troubled = troubled; shut = shut }

-- Its bytes moved on: what waited went to its socket in order, with frames of a WebSocket's own behind it; and of
-- its own bytes these were heard.
pub record Moved (bytes : List ℕ) (r s : ClientState) : Type 0 where
  pub frames : List ℕ
  pub sent : Moves r.socket.taken r.outgoing s.socket.taken s.outgoing frames
  pub plain : r.upgraded ≡ false → frames ≡ []
  pub heard : r.upgraded ≡ false → r.shut ≡ false → Consumes r.socket.left s.socket.left bytes
  pub upgraded : s.upgraded ≡ r.upgraded
  pub shut : s.shut ≡ r.shut

-- nothing was told of it
pub record Rests (r s : ClientState) : Type 0 where
  pub moved : Moved [] r s
  pub wanted : s.wanted ≡ r.wanted
  pub untold : s.untold ≡ r.untold
  pub troubled : r.troubled ≡ true → s.troubled ≡ true

-- the event is of client c, and its cause
abbrev pub IsDue : ℕ → ClientState → ClientState → Event → Type 0
IsDue c r s (ClientBytes d bytes) =
    (d ≡ c) × (r.wanted ≡ true) × (r.upgraded ≡ false) × (0 < length bytes) × (length bytes ≤ 65536) × (s.untold ≡ r.untold) × Moved bytes r s
IsDue c r s (ClientEof d) =
    (d ≡ c) × (r.wanted ≡ true) × (r.upgraded ≡ false) × IsAtEnd s.socket.left × (s.untold ≡ r.untold) × Moved [] r s
IsDue c r s (ClientGone d) = (d ≡ c) × (s.untold ≡ r.untold) × Moved [] r s
IsDue c r s (Wrote d n) =
    (d ≡ c) × (0 < n) × (s.untold + n ≡ r.untold) × (s.untold ≡ min r.untold (length s.outgoing)) × Moved [] r s
IsDue c r s (WsText d bytes) = (d ≡ c) × (r.wanted ≡ true) × (r.upgraded ≡ true) × (s.untold ≡ r.untold) × Moved [] r s
IsDue c r s (WsBinary d) = (d ≡ c) × (r.wanted ≡ true) × (r.upgraded ≡ true) × (s.untold ≡ r.untold) × Moved [] r s
IsDue c r s (WsClosed d) = (d ≡ c) × (r.wanted ≡ true) × (r.upgraded ≡ true) × (s.untold ≡ r.untold) × Moved [] r s
IsDue c r s (WsBad d) = (d ≡ c) × (r.wanted ≡ true) × (r.upgraded ≡ true) × (s.untold ≡ r.untold) × Moved [] r s
IsDue c r s (NoRoom d) = (d ≡ c) × (s.untold ≡ r.untold) × (s.shut ≡ r.shut)
IsDue c r s _ = ⊥

-- the event tells that a client failed, or that there was no room
abbrev pub tells_trouble : Event → Bool
tells_trouble (ClientGone c) = true
tells_trouble (NoRoom c) = true
tells_trouble _ = false

-- it gave the event, before it was shut
pub record Says (c : ℕ) (r s : ClientState) (event : Event) : Type 0 where
  pub due : IsDue c r s event
  pub not_shut : r.shut ≡ false
  -- where it is in trouble, that is told
  pub trouble : r.troubled ≡ true → tells_trouble event ≡ true
  pub wanted : s.wanted ≡ wanted_after event r.wanted

-- more waits to be sent than is to
abbrev pub is_behind : ClientState → Bool
is_behind s = nat_lt 524288 (length s.outgoing)

-- so much waits that no more is read of a WebSocket
pub record HasMuch (s : ClientState) : Type 0 where
  pub upgraded : s.upgraded ≡ true
  pub much : 524288 < length s.outgoing

-- Nothing is to be told of it: where bytes wait its socket took none of them, and where an event is asked for its
-- socket found that nothing has come.
pub record IsStill (s : ClientState) : Type 0 where
  pub untroubled : s.troubled ≡ false
  pub room : 0 < length s.outgoing → s.socket.full ≡ true
  pub bytes : s.wanted ≡ true → (s.socket.dry ≡ true) ⊎ HasMuch s

abbrev pub IsStillOrShut : ClientState → Type 0
IsStillOrShut s = s.shut ≡ false → IsStill s

-- nothing was heard of it, and nothing waits
pub record IsNewClient (socket : SocketTells) (s : ClientState) : Type 0 where
  pub is_of : s.socket ≡ socket
  pub nothing_waits : s.outgoing ≡ []
  pub nothing_untold : s.untold ≡ 0
  pub unasked : s.wanted ≡ false
  pub plain : s.upgraded ≡ false
  pub untroubled : s.troubled ≡ false
  pub not_shut : s.shut ≡ false

-- ---- what the acts do to it

-- once it was shut, nothing
pub record UnlessShut (R : ClientState → ClientState → Type 0) (r s : ClientState) : Type 0 where
  pub kept : r.shut ≡ true → s ≡ r
  pub done : r.shut ≡ false → R r s

abbrev pub Keeps : ClientState → ClientState → Type 0
Keeps r s = s ≡ r

abbrev pub WantsMore : ClientState → ClientState → Type 0
WantsMore r s = s ≡ record r { wanted = true }

-- the bytes wait behind the others, and are to be told
abbrev pub Writes : List ℕ → ClientState → ClientState → Type 0
Writes bytes r s = s ≡ record r { outgoing = r.outgoing ++ bytes; untold = min (r.untold + length bytes) (2 ^ 64 - 1) }

-- what was written before is told no more
abbrev pub Upgrades : ClientState → ClientState → Type 0
Upgrades r s = s ≡ record r { upgraded = true; untold = 0 }

-- frames of a WebSocket wait behind the others, for at most so many bytes of texts
pub record Frames (said : ℕ) (r s : ClientState) : Type 0 where
  pub frames : List ℕ
  pub outgoing : s.outgoing ≡ r.outgoing ++ frames
  pub plain : r.upgraded ≡ false → frames ≡ []
  pub least : r.untold ≤ s.untold
  pub most : s.untold ≤ r.untold + said
  pub troubled : r.troubled ≡ true → s.troubled ≡ true
  pub same : s ≡ record r { outgoing = s.outgoing; untold = s.untold; troubled = s.troubled }

abbrev pub Shuts : ClientState → ClientState → Type 0
Shuts r s = s ≡ record r { shut = true }

-- it was not shut, and speaks no WebSocket
abbrev pub is_plain : ClientState → Bool
is_plain r = not r.shut && not r.upgraded

-- its socket's receiving side was ended, if it is plain
pub record EndsHearing (r s : ClientState) : Type 0 where
  pub kept : is_plain r ≡ false → s ≡ r
  pub ended : is_plain r ≡ true → EndsReceiving r.socket s.socket
  pub same : s ≡ record r { socket = s.socket }

-- it was reported to be ready or, before it was shut, to have failed
abbrev pub noted : Bool → Bool → Bool → Bool
noted failed shut troubled = if failed && not shut then true else troubled

abbrev pub Notes : Bool → ClientState → ClientState → Type 0
Notes failed r s = s ≡ record r { troubled = noted failed r.shut r.troubled }

-- it is in trouble
abbrev pub Fails : ClientState → ClientState → Type 0
Fails r s = s ≡ record r { troubled = true }

abbrev pub SameButUntold : ClientState → ClientState → Type 0
SameButUntold r s = s ≡ record r { untold = s.untold }

abbrev pub IsUnwanted : ClientState → ClientState → Type 0
IsUnwanted r s = s ≡ record r { wanted = false }

-- an event comes only where something failed
abbrev pub has_failed : Option Event → Bool
has_failed None = false
has_failed (Some event) = is_failure event

-- the event is of a WebSocket
abbrev pub SaysMessage : ℕ → Event → Type 0
SaysMessage c (WsText d bytes) = d ≡ c
SaysMessage c (WsBinary d) = d ≡ c
SaysMessage c (WsClosed d) = d ≡ c
SaysMessage c (WsBad d) = d ≡ c
SaysMessage c (NoRoom d) = d ≡ c
SaysMessage c _ = ⊥

-- what a link's answer is told as
abbrev pub event_of : ℕ → Linked → Option Event
event_of c (Link.Text bytes) = Some (WsText c bytes)
event_of c Link.Binary = Some (WsBinary c)
event_of c Link.Closed = Some (WsClosed c)
event_of c Link.Bad = Some (WsBad c)
event_of c Link.NotYet = None
event_of c Link.NoMemory = Some (NoRoom c)

-- a count of faults rises with each event of failure and each failure of the ports
pub record CountsFaults (event : Option Event) (ports_old ports_new : PortsTell) (old new : ℕ) : Type 0 where
  pub grown : old ≤ new
  pub ports : (ports_new.failed ≡ ports_old.failed) ⊎ Rose old new
  pub rest : ports_new ≡ record ports_old { failed = ports_new.failed }
  pub event_counts : has_failed event ≡ true → Rose old new
