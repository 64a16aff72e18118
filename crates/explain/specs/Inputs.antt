-- What an event says of the first request of connection 0, and what is made of it.
use Rattle.std.specs.Prelude.{◌≡◌, ℕ, ◌==◌, Bool, true, false, List, [], ◌++◌, Option, Some, None, is_some, if◌then◌else◌}
use Rattle.host_base.specs.declared.cause.Cause.TheVariants.{Incomplete}
use Rattle.host_base.specs.declared.launch.Peer.{Peer}
use Rattle.host_base.specs.declared.limits.Limits.{Limits}
use Rattle.host_trace.specs.declared.items.Event.{Event}
use Rattle.host_trace.specs.declared.items.Event.TheVariants as On
use Rattle.request_reader.specs.Reader.{IsHeard}
use Rattle.request_reader.specs.Request.{Reading, Whole, More, Bad, is_begun, read_request}
use Rattle.explain.specs.declared.first.First.{First}
use Rattle.explain.specs.declared.input.Ending.{Ending}
use Rattle.explain.specs.declared.input.Ending.TheVariants as Ends
use Rattle.explain.specs.declared.input.Heard.{Heard}
use Rattle.explain.specs.declared.input.Heard.TheVariants.{Passed, Asks, Ended, NoMemory}
use Rattle.explain.specs.declared.input.Input.{Input}
use Rattle.explain.specs.declared.input.Input.TheVariants as Is

-- ---- events

abbrev pub if_first : ℕ → Input → Input
if_first c input = if 0 == c then input else Is.Other

-- what connection 0 says; a client that is gone and the end of the server are one
abbrev pub input_of : Event → Input
input_of (On.Accepted peer) = Is.Accepted peer
input_of (On.ClientBytes c bytes) = if_first c (Is.Bytes bytes)
input_of (On.ClientEof c) = if_first c Is.Eof
input_of (On.ClientGone c) = if_first c Is.Gone
input_of (On.NoRoom c) = if_first c Is.NoRoom
input_of On.Stop = Is.Gone
input_of _ = Is.Other

-- the first client that connected
abbrev pub peer_after : Option Peer → Input → Option Peer
peer_after (Some peer) input = Some peer
peer_after None (Is.Accepted peer) = Some peer
peer_after None _ = None

abbrev pub bytes_of : Input → List ℕ
bytes_of (Is.Bytes bytes) = bytes
bytes_of _ = []

-- ---- what is made of it

-- how the first request ended
abbrev pub ending_of_reading : Reading → Bool → Ending
ending_of_reading (Whole request used due) cut = Ends.Whole request
ending_of_reading (Bad cause bare) cut = Ends.Refused cause
ending_of_reading (More request due) cut = if cut then Ends.Refused Incomplete else Ends.Nothing

abbrev pub is_answer : Reading → Bool
is_answer (Whole request used due) = true
is_answer (Bad cause bare) = true
is_answer (More request due) = false

abbrev pub heard_of_reading : Reading → Heard
heard_of_reading reading = if is_answer reading then Ended (ending_of_reading reading false) else Asks

-- what follows an input, where the client is known or not and has sent these bytes
abbrev pub heard_of : Limits → Option Peer → List ℕ → Input → Heard
heard_of limits peer bytes (Is.Accepted new) = if is_some peer then Passed else Asks
heard_of limits peer bytes (Is.Bytes more) = heard_of_reading (read_request limits (bytes ++ more))
heard_of limits peer bytes Is.Eof = Ended (if is_begun bytes then Ends.Refused Incomplete else Ends.Nothing)
heard_of limits peer bytes Is.Gone = Ended Ends.Nothing
heard_of limits peer bytes Is.NoRoom = NoMemory
heard_of limits peer bytes Is.Other = Passed

abbrev pub goes_on : Heard → Bool
goes_on Passed = true
goes_on Asks = true
goes_on (Ended ending) = false
goes_on NoMemory = false

-- the first request of a client that sent these bytes, which are not a whole one yet
pub record KnowsInputs (first : First) (limits : Limits) (peer : Option Peer) (bytes : List ℕ) : Type 0 where
  pub limits_are : first.reader.limits ≡ limits
  pub peer_is : first.peer ≡ peer
  pub heard : IsHeard first.reader bytes 0

-- .. a client that sent some bytes
abbrev pub KnowsSome : First → Limits → Type 0
KnowsSome first limits = (peer : Option Peer) × ((bytes : List ℕ) × KnowsInputs first limits peer bytes)
