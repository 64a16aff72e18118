-- What decides a run: the first item after its Start by a row of the table of deciders, or the end of the client's input
-- within the body; and what it makes of the run.
use Rattle.std.specs.Prelude.{Bool, false, not, ◌&&◌, ◌||◌, ◌==◌, List, Option, Some, None, is_some, option_map, option_and_then, if◌then◌else◌}
use Rattle.host_base.specs.declared.cause.Cause.TheVariants.{Incomplete}
use Rattle.host_trace.specs.declared.items.Event.TheVariants.{ClientEof}
use Rattle.host_trace.specs.declared.items.Item.{Item}
use Rattle.host_trace.specs.declared.items.Item.TheVariants.{In}
use Rattle.host_trace.specs.First.{since, first_front, last_of}
use Rattle.host_trace.specs.Kinds.{is_start, is_client_eof, is_child_eof}
use Rattle.host_trace.specs.Projections.{start_stands}
use Rattle.host_trace.specs.Decider.{decides, outcome_by, Outcome, failed}
use Rattle.trace_child.specs.Run.{Run}

-- x, after these items, is the end of the client's input, and not all of the body was heard. Where no body is awaited,
-- as after a local redirect, all of it is there.
abbrev pub cuts_body_short : Run → List Item → Item → Bool
cuts_body_short run front (In (ClientEof c)) = run.conn == c && not (run.offered front).whole
cuts_body_short run front _ = false

-- x, after these items, decides the run, if nothing did before
abbrev pub decides_run : Run → List Item → Item → Bool
decides_run run front x =
    start_stands front run.child
    && (decides run.limits run.kind run.conn run.child (since (is_start run.child) front) x || cuts_body_short run front x)

-- the items up to and with the one that decides the run
abbrev pub decided_at : Run → List Item → Option (List Item)
decided_at run items = first_front (decides_run run) items

abbrev pub deciding_item : Run → List Item → Option Item
deciding_item run items = option_and_then last_of (decided_at run items)

-- what x makes of the run that it decides
abbrev pub outcome_at : Run → Item → Outcome
outcome_at run x = if is_client_eof run.conn x then failed Incomplete else outcome_by run.kind run.child x

abbrev pub outcome_of : Run → List Item → Option Outcome
outcome_of run items = option_map (outcome_at run) (deciding_item run items)

-- ---- whether, and by which item

abbrev pub is_decided : Run → List Item → Bool
is_decided run items = is_some (decided_at run items)

abbrev pub is_output_end_of : Run → Option Item → Bool
is_output_end_of run None = false
is_output_end_of run (Some x) = is_child_eof run.child x

-- by the end of its output
abbrev pub is_by_output : Run → List Item → Bool
is_by_output run items = is_output_end_of run (deciding_item run items)

-- by another item
abbrev pub is_by_other : Run → List Item → Bool
is_by_other run items = is_decided run items && not (is_by_output run items)
