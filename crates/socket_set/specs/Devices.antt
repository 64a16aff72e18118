-- What ports tell of their calls.
use Rattle.std.specs.Prelude.{◌≡◌, ◌≤◌, ℕ, Bool, true, false, Option, Some}
use Rattle.host_base.specs.Outsides.{Rose}
use Rattle.host_base.specs.declared.launch.Peer.{Peer}
use Rattle.socket_set.specs.declared.ports.Arrival.{Arrival}
use Rattle.socket_set.specs.declared.ports.Arrival.TheVariants.{Client, Nothing, Failed}

pub record PortsTell : Type 0 where
  -- how often the clock has shown 100 ms more, as far as it was asked
  pub shown : ℕ
  -- how often the clock was asked, and how often a wait was made
  pub looks : ℕ
  pub waits : ℕ
  -- how many calls failed
  pub failed : ℕ
  -- who sent the client that was given last
  pub peer : Option Peer
  -- the Unix seconds that the clock showed when it was asked for them last
  pub secs : ℕ

-- the call failed exactly where the test is false, and then the count rose
abbrev pub FailsUnless : Bool → PortsTell → PortsTell → Type 0
FailsUnless true old new = new ≡ old
FailsUnless false old new = (new ≡ record old { failed = new.failed }) × Rose old.failed new.failed

-- a wait was made, and failed exactly where the test is false
pub record Waits (waited : Bool) (old new : PortsTell) : Type 0 where
  pub asked : Rose old.waits new.waits
  pub grown : old.waits ≤ new.waits
  pub fails : FailsUnless waited (record old { waits = new.waits }) new

-- the clock was asked
pub record AsksClock (old new : PortsTell) : Type 0 where
  pub asked : Rose old.looks new.looks
  pub grown : old.looks ≤ new.looks
  pub rest : new ≡ record old { shown = new.shown; looks = new.looks }

-- the clock was asked for its Unix seconds
abbrev pub Shows : ℕ → PortsTell → PortsTell → Type 0
Shows secs old new = new ≡ record old { secs = secs }

-- what came of asking for the next client: it is of this peer, or none waits, or the call failed
abbrev pub Accepts : {S : Type 0} → Arrival S → PortsTell → PortsTell → Type 0
Accepts (Client socket peer) old new = new ≡ record old { peer = Some peer }
Accepts Nothing old new = new ≡ old
Accepts Failed old new = FailsUnless false old new
