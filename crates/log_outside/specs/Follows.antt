-- What the log follows of a trace.
use Rattle.std.specs.Prelude.{Bool, true, false, Option, Some, None}
use Rattle.host_trace.specs.declared.items.Event.{Event}
use Rattle.host_trace.specs.declared.items.Event.TheVariants.{Accepted, ClientBytes, StartFailed, StartFull, ChildEof, ChildBroken}
use Rattle.host_trace.specs.declared.items.Act.{Act}
use Rattle.host_trace.specs.declared.items.Act.TheVariants.{Write, Start, Says, Shut}
use Rattle.host_trace.specs.declared.items.Why.{Why}
use Rattle.host_trace.specs.declared.items.Why.TheVariants as Over
use Rattle.log_line.specs.declared.entry.Remark.{Remark}
use Rattle.log_line.specs.declared.entry.Remark.TheVariants as Ends

abbrev pub is_heard_of : Event → Bool
is_heard_of (Accepted peer) = true
is_heard_of (ClientBytes c bytes) = true
is_heard_of (StartFailed k) = true
is_heard_of (StartFull k seen) = true
is_heard_of (ChildEof k) = true
is_heard_of (ChildBroken k) = true
is_heard_of _ = false

abbrev pub is_done_of : Act → Bool
is_done_of (Write c bytes) = true
is_done_of (Start k c j hop launch) = true
is_done_of (Says c texts) = true
is_done_of (Shut c why) = true
is_done_of _ = false

-- why a reply that goes on ends with its connection; where the connection is done, so is the reply
abbrev pub remark_at : Why → Option Remark
remark_at Over.Done = None
remark_at Over.Gone = Some Ends.Gone
remark_at (Over.Cut cause) = Some (Ends.Cut cause)
remark_at Over.Idle = None
remark_at Over.Full = None
remark_at Over.Stopped = Some Ends.Stopped
remark_at Over.NoMemory = Some Ends.NoMemory
