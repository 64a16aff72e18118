-- What the calls of a run make of it.
use Rattle.std.specs.Prelude.{ℕ, Bool, true, false, not, ◌||◌, ◌&&◌, ◌==◌, nat_le, List, [], Some, is_some}
use Rattle.host_base.specs.declared.cause.Cause.TheVariants.{Incomplete as IncompleteCause}
use Rattle.host_trace.specs.declared.items.Event.{Event}
use Rattle.host_trace.specs.declared.items.Event.TheVariants.{Started, StartFailed, StartFull, ChildBytes, ChildEof, ChildBroken, Took, InputGone, Exited, Tick, Stop}
use Rattle.host_trace.specs.declared.items.Item.TheVariants.{In}
use Rattle.host_trace.specs.First.{or_else}
use Rattle.host_trace.specs.Fits.{is_piece}
use Rattle.host_trace.specs.Kinds.{names_child}
use Rattle.host_trace.specs.Decider.{is_websocket}
use Rattle.child_core.specs.declared.ending.Outcome.{Outcome}
use Rattle.child_core.specs.declared.ending.Outcome.TheVariants as Ended
use Rattle.child_core.specs.declared.ending.Ending.{Ending}
use Rattle.child_core.specs.declared.ending.Ending.TheVariants.{Gone, Stopped, Dropped, Refused, Incomplete}
use Rattle.child_core.specs.View.{View, Note, plain, noted, cleared, more_if, drops_output, outcome_after}

-- ---- hear

-- events of a child, Tick and Stop
abbrev pub is_heard : Event → Bool
is_heard (Started k) = true
is_heard (StartFailed k) = true
is_heard (StartFull k seen) = true
is_heard (ChildBytes k bytes) = true
is_heard (ChildEof k) = true
is_heard (ChildBroken k) = true
is_heard (Took k n) = true
is_heard (InputGone k) = true
is_heard (Exited k) = true
is_heard (Tick secs) = true
is_heard Stop = true
is_heard _ = false

-- there was room for what it carries, or not
abbrev pub hearing : Bool → Note
hearing found = record plain { found = found }

abbrev pub heard_if : Bool → View → Event → Bool → View
heard_if true v event found = noted 0 v (hearing found) (In event)
heard_if false v event found = v

-- no test of such an event looks at the connection
abbrev pub heard : View → Event → Bool → View
heard v event found = heard_if (is_heard event) v event found

-- the event carries output that is kept
abbrev pub is_kept : View → Event → Bool
is_kept v (ChildBytes k bytes) = v.number == k && not (drops_output v.kind (outcome_after 0 v plain (In (ChildBytes k bytes))))
is_kept v _ = false

-- ---- fits

-- an event of the child may come next; one that names another child, or none, is none of its concern
abbrev pub may_come : View → Event → Bool
may_come v (Started k) = not (v.started || v.refused)
may_come v (StartFailed k) = not (v.started || v.refused)
may_come v (StartFull k seen) = not (v.started || v.refused) && seen == v.book
may_come v (ChildBytes k bytes) = v.started && not v.output_ended && v.asked && is_piece bytes
may_come v (ChildEof k) = v.started && not v.output_ended && v.asked
may_come v (ChildBroken k) = v.started && not v.output_ended && v.asked
may_come v (Took k n) = v.started && nat_le 1 n && nat_le n v.untaken
may_come v (InputGone k) = v.started && not v.input_ended
may_come v (Exited k) = v.started && not v.exited
may_come v _ = true

abbrev pub fits_run : View → Event → Bool
fits_run v event = not (names_child v.number (In event)) || may_come v event

-- ---- offer, end_by, close_input, drain

abbrev pub offered : View → List ℕ → Bool → View
offered v bytes last = record v {
  unfed = more_if bytes (not (is_some v.outcome)) v.unfed;
  whole = last && not (is_some v.outcome) || v.whole;
}

abbrev pub outcome_of_ending : Ending → Outcome
outcome_of_ending Gone = Ended.Gone
outcome_of_ending Stopped = Ended.Stopped
outcome_of_ending Dropped = Ended.Dropped
outcome_of_ending Refused = Ended.Dropped
outcome_of_ending Incomplete = Ended.Failed IncompleteCause

-- nobody waits any more for a child whose output ended
abbrev pub ends_wait : Ending → Bool
ends_wait Gone = true
ends_wait Stopped = true
ends_wait Dropped = true
ends_wait Refused = false
ends_wait Incomplete = false

-- decided, unless it was; nothing is fed any more, and output is dropped that is none of a reply
abbrev pub decided : View → Outcome → View
decided v outcome = record v {
  outcome = or_else v.outcome (Some outcome);
  unfed = [];
  whole = false;
  output = cleared (drops_output v.kind (or_else v.outcome (Some outcome))) v.output;
}

-- .. since it could not be started
abbrev pub refused : View → Outcome → View
refused v outcome = record (decided v outcome) { refused = true }

abbrev pub ended : View → Ending → View
ended v ending = record (decided v (outcome_of_ending ending)) { abandoned = ends_wait ending || v.abandoned }

abbrev pub closed : View → View
closed v = record v { hung_up = true }

abbrev pub drained : View → View
drained v = record v { output = [] }

-- ---- what it tells

-- it was not started, or it was reaped, its input ended and its output ended
abbrev pub is_settled : View → Bool
is_settled v = v.refused || v.exited && v.input_ended && v.output_ended

-- it takes more of its client
abbrev pub wants_more : View → Bool
wants_more v = v.untaken == 0 || is_websocket v.kind && (v.input_ended || v.exited)

-- bytes that are offered will be fed
abbrev pub takes_input : View → Bool
takes_input v = not (is_some v.outcome || v.input_ended || v.exited || v.whole)

-- a text may be heard for a WebSocket's program: it was started, and wants more
abbrev pub wants_text : View → Bool
wants_text v = v.started && wants_more v
