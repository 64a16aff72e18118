-- What the network and its waits tell.
use Rattle.std.specs.Prelude.{◌≡◌, ℕ, Bool, true, false, List, [], ◌∷◌, Option, Some, None}
use Rattle.host_base.specs.Outsides.{Rose}
use Rattle.socket_set.specs.Devices.{PortsTell}
use Rattle.socket_set.specs.declared.ports.Ready.{Ready}
use Rattle.net_sockets.specs.declared.ports.NetPorts.{NetPorts}
use Rattle.net_sockets.specs.declared.socket.TcpSocket.{TcpSocket}

-- a count of failures rises exactly where the test is false
abbrev pub RisesUnless : Bool → ℕ → ℕ → Type 0
RisesUnless true old new = new ≡ old
RisesUnless false old new = Rose old new

-- nothing was read of a socket, or written to it
pub record IsSameSocket (old new : TcpSocket) : Type 0 where
  pub dry : new.dry ≡ old.dry
  pub full : new.full ≡ old.full
  pub faults : new.faults ≡ old.faults

module _ {R : Type 0} where
  -- what ports tell of their clock, their failures and the client that came last
  abbrev pub ports_tell : NetPorts R → PortsTell
  ports_tell ports =
      record {
        shown = ports.shown;
        looks = ports.looks;
        waits = ports.waits;
        failed = ports.failed;
        peer = ports.peer.value;
        secs = ports.secs;
      }

  -- ports of which nothing was asked
  pub record IsFresh (ports : NetPorts R) : Type 0 where
    pub shown : ports.shown ≡ 0
    pub looks : ports.looks ≡ 0
    pub waits : ports.waits ≡ 0
    pub failed : ports.failed ≡ 0

  -- what a wait reported and was not given yet
  abbrev pub reports_of : NetPorts R → List Ready
  reports_of ports = ports.poll.reports.items

  -- the first report was given, if there was any
  abbrev pub GivesReport : Option Ready → NetPorts R → NetPorts R → Type 0
  GivesReport None old new = reports_of old ≡ []
  GivesReport (Some report) old new = reports_of old ≡ report ∷ reports_of new
