-- What the set of sockets holds, and what an event and an act do to it.
use Rattle.std.specs.Prelude.{◌≡◌, ◌≢◌, ℕ, ◌≤◌, ◌<◌, ◌+◌, ◌⊎◌, Bool, true, false, not, List, [], length, sum_by, Option, Some, None, ⊤}
use Rattle.std.specs.List.{All}
use Rattle.std.specs.Map.{lookup}
use Rattle.std.specs.Ordering.{nat_cmp}
use Rattle.std.specs.BTreeMap.{is_at}
use Rattle.host_base.specs.Outsides.{Rose}
use Rattle.host_trace.specs.declared.items.Event.{Event}
use Rattle.host_trace.specs.declared.items.Event.TheVariants.{Accepted, Tick}
use Rattle.host_trace.specs.declared.items.Act.{Act}
use Rattle.host_trace.specs.declared.items.Act.TheVariants.{WantClient, Write, Shut, Upgrade, Says as SaysTexts, CloseWs}
use Rattle.host_trace.specs.declared.outside.Acted.{Acted}
use Rattle.host_trace.specs.declared.outside.Acted.TheVariants.{Done, NoRoom as HasNoRoom}
use Rattle.socket_set.specs.declared.set.Polled.{Polled}
use Rattle.socket_set.specs.declared.set.Polled.TheVariants.{Told, Nothing, Again}
use Rattle.socket_set.specs.declared.ports.Arrival.{Arrival}
use Rattle.socket_set.specs.declared.ports.Arrival.TheVariants.{Client, Nothing as Missing, Failed}
use Rattle.socket_set.specs.Devices.{PortsTell}
use Rattle.socket_set.specs.Clients.{ClientState, IsStillOrShut, Rests, Says, UnlessShut, Keeps, WantsMore, Writes, Upgrades, Frames, Shuts}

pub record SetState : Type 0 where
  -- the clients and their numbers
  pub rows : List (ℕ × ClientState)
  -- how many were accepted; the next has this number
  pub accepted : ℕ
  -- how many ticks were told
  pub ticked : ℕ
  -- further clients are accepted
  pub listening : Bool
  -- how often a client, or a call of the ports, failed
  pub faults : ℕ
  pub ports : PortsTell

-- the client with a number
abbrev pub client_of : List (ℕ × ClientState) → ℕ → Option ClientState
client_of rows c = lookup (is_at (nat_cmp c)) rows

abbrev pub clients : SetState → ℕ → Option ClientState
clients set c = client_of set.rows c

abbrev pub set_of : List (ℕ × ClientState) → ℕ → ℕ → Bool → ℕ → PortsTell → SetState
set_of rows accepted ticked listening faults ports =
    record { rows = rows; accepted = accepted; ticked = ticked; listening = listening; faults = faults; ports = ports }

-- nothing was told of it; one that was shut may be gone
abbrev pub Goes : Option ClientState → Option ClientState → Type 0
Goes None None = ⊤
Goes None (Some s) = ⊥
Goes (Some r) None = r.shut ≡ true
Goes (Some r) (Some s) = Rests r s

abbrev pub AllRest : (ℕ → Option ClientState) → (ℕ → Option ClientState) → Type 0
AllRest f g = (c : ℕ) → Goes (f c) (g c)

-- all but client c
abbrev pub OthersRest : ℕ → (ℕ → Option ClientState) → (ℕ → Option ClientState) → Type 0
OthersRest c f g = (d : ℕ) → d ≢ c → Goes (f d) (g d)

-- one client gave the event, and the others rest
pub record OneSays (event : Event) (f g : ℕ → Option ClientState) : Type 0 where
  pub c : ℕ
  pub r : ClientState
  pub s : ClientState
  pub was : f c ≡ Some r
  pub is_now : g c ≡ Some s
  pub says : Says c r s event
  pub others : OthersRest c f g

-- a client of whom nothing was heard, and to whom nothing was written
pub record IsFresh (s : ClientState) : Type 0 where
  pub nothing_waits : s.outgoing ≡ []
  pub nothing_untold : s.untold ≡ 0
  pub unasked : s.wanted ≡ false
  pub plain : s.upgraded ≡ false
  pub untroubled : s.troubled ≡ false
  pub not_shut : s.shut ≡ false

-- client c is new, and the others rest
pub record Arrives (c : ℕ) (f g : ℕ → Option ClientState) : Type 0 where
  pub s : ClientState
  pub is_now : g c ≡ Some s
  pub fresh : IsFresh s
  pub others : OthersRest c f g

-- the numbers of clients and ticks are the same, and so is whether further clients are accepted
pub record SameCounts (old new : SetState) : Type 0 where
  pub accepted : new.accepted ≡ old.accepted
  pub ticked : new.ticked ≡ old.ticked
  pub listening : new.listening ≡ old.listening

-- what the event says of the set, and its cause
abbrev pub Tells : Event → SetState → SetState → Type 0
Tells (Accepted peer) old new =
    (new.accepted ≡ old.accepted + 1) × (new.ticked ≡ old.ticked) × (old.listening ≡ true) × (new.listening ≡ true) × (new.ports.peer ≡ Some peer)
    × Arrives old.accepted (clients old) (clients new)
Tells (Tick secs) old new =
    (new.accepted ≡ old.accepted) × (new.ticked ≡ old.ticked + 1) × (new.listening ≡ old.listening) × (new.ticked ≤ new.ports.shown) × (secs ≡ new.ports.secs)
    × (secs < 253402300800) × AllRest (clients old) (clients new)
Tells event old new = SameCounts old new × OneSays event (clients old) (clients new)

-- nothing was told
pub record IsQuiet (old new : SetState) : Type 0 where
  pub counts : SameCounts old new
  pub rest : AllRest (clients old) (clients new)

-- each failure of the ports is counted, and no fault is forgotten
pub record Counted (old new : SetState) : Type 0 where
  pub grown : old.faults ≤ new.faults
  pub looks : old.ports.looks ≤ new.ports.looks
  pub waits : old.ports.waits ≤ new.ports.waits
  pub ports : (new.ports.failed ≡ old.ports.failed) ⊎ Rose old.faults new.faults

-- what an answer tells
abbrev pub told_by : Polled → Option Event
told_by (Told event) = Some event
told_by Nothing = None
told_by Again = None

-- the clock was asked, and shows no tick that was not told
pub record OwesNoTick (old new : SetState) : Type 0 where
  pub asked : Rose old.ports.looks new.ports.looks
  pub none_owed : new.ports.shown ≤ new.ticked

-- Nothing is there to be told: the clock was asked, and what is ready, and no client has anything to tell.
pub record IsIdle (old new : SetState) : Type 0 where
  pub tick : OwesNoTick old new
  pub ready : Rose old.ports.waits new.ports.waits
  pub still : All (λ row. IsStillOrShut row.1) new.rows

-- a client that was shut
abbrev pub is_shut_at : Option ClientState → Bool
is_shut_at None = false
is_shut_at (Some r) = r.shut

-- .. and one that was not
abbrev pub is_open_at : Option ClientState → Bool
is_open_at None = false
is_open_at (Some r) = not r.shut

-- ---- acts

-- client c is changed so, if there is one, and no other
abbrev pub OnClient : (ClientState → ClientState → Type 0) → Option ClientState → Option ClientState → Type 0
OnClient R None now = now ≡ None
OnClient R (Some r) None = ⊥
OnClient R (Some r) (Some s) = R r s

pub record OnOne (c : ℕ) (R : ClientState → ClientState → Type 0) (old new : SetState) : Type 0 where
  pub client : OnClient R (clients old c) (clients new c)
  pub others : (d : ℕ) → d ≢ c → clients new d ≡ clients old d
  pub counts : SameCounts old new

-- nothing failed, and the clock was not asked
pub record SameDevices (old new : SetState) : Type 0 where
  pub faults : new.faults ≡ old.faults
  pub ports : new.ports ≡ old.ports

pub record On (c : ℕ) (R : ClientState → ClientState → Type 0) (old new : SetState) : Type 0 where
  pub one : OnOne c R old new
  pub devices : SameDevices old new

-- each client was changed so
pub record OnEach (R : ClientState → ClientState → Type 0) (old new : SetState) : Type 0 where
  pub each : (c : ℕ) → c < old.accepted → OnClient R (clients old c) (clients new c)
  pub others : (c : ℕ) → old.accepted ≤ c → clients new c ≡ clients old c
  pub counts : SameCounts old new
  pub devices : SameDevices old new

-- the clients are the same
pub record SameClients (old new : SetState) : Type 0 where
  pub rows : new.rows ≡ old.rows
  pub counts : SameCounts old new

-- a client that came is of the peer that the ports told last
abbrev pub IsOf : {S : Type 0} → Arrival S → SetState → Type 0
IsOf (Client socket peer) set = set.ports.peer ≡ Some peer
IsOf Missing set = ⊤
IsOf Failed set = ⊤

-- the client has the next number, beside the others
pub record Inserts (s : ClientState) (old new : SetState) : Type 0 where
  pub is_now : clients new old.accepted ≡ Some s
  pub others : (d : ℕ) → d ≢ old.accepted → clients new d ≡ clients old d
  pub accepted : new.accepted ≡ old.accepted + 1
  pub ticked : new.ticked ≡ old.ticked
  pub listening : new.listening ≡ old.listening
  pub devices : SameDevices old new

-- client c is let go of, and no other
pub record Leaves (c : ℕ) (old new : SetState) : Type 0 where
  pub gone : clients new c ≡ None
  pub others : (d : ℕ) → d ≢ c → clients new d ≡ clients old d
  pub counts : SameCounts old new
  pub devices : SameDevices old new

-- What an act does. One that finds no room does nothing, and so does one on a client that was shut.
abbrev pub Acts : Act → Acted → SetState → SetState → Type 0
Acts (WantClient c) acted old new = (acted ≡ Done) × On c (UnlessShut WantsMore) old new
Acts (Write c bytes) Done old new = On c (UnlessShut (Writes bytes)) old new
Acts (Write c bytes) HasNoRoom old new = On c Keeps old new
Acts (Upgrade c rest) Done old new = On c (UnlessShut Upgrades) old new
Acts (Upgrade c rest) HasNoRoom old new = On c Keeps old new
Acts (SaysTexts c texts) acted old new = (acted ≡ Done) × On c (UnlessShut (Frames (sum_by length texts))) old new
Acts (CloseWs c code) acted old new = (acted ≡ Done) × On c (UnlessShut (Frames 0)) old new
Acts (Shut c why) acted old new = (acted ≡ Done) × On c Shuts old new
Acts _ acted old new = (acted ≡ Done) × (new ≡ old)
