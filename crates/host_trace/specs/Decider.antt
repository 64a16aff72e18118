-- What decides a child's run: the first item after its Start that one of these rows names.
use Rattle.std.specs.Prelude.{ℕ, Bool, true, false, not, List, [], ◌∷◌, ◌++◌, ◌==◌, ◌+◌, ◌&&◌, ◌||◌, nat_lt, length, Option, option_map, option_and_then, if◌then◌else◌}
use Rattle.std.specs.List.{list_any, slice_split}
use Rattle.host_base.specs.declared.cause.Cause.{Cause}
use Rattle.host_base.specs.declared.cause.Cause.TheVariants.{StartFailed as StartFailedCause, OutputBroken, OutputTooLarge, RunTime, Full}
use Rattle.host_base.specs.declared.limits.Limits.{Limits}
use Rattle.host_base.specs.declared.site.ScriptKind.{ScriptKind}
use Rattle.host_base.specs.declared.site.ScriptKind.TheVariants.{Cgi, Nph, WebSocket}
use Rattle.host_trace.specs.declared.items.Event.TheVariants.{StartFull, WsText}
use Rattle.host_trace.specs.declared.items.Item.{Item}
use Rattle.host_trace.specs.declared.items.Item.TheVariants.{In}
use Rattle.host_trace.specs.Kinds.{is_start, is_start_failed, is_start_full, is_child_bytes, is_child_eof, is_child_broken, is_tick, is_stop, is_client_gone, is_ws_bad, is_ws_binary, is_no_room, is_shut_for_memory}
use Rattle.host_trace.specs.First.{since, first_front, last_of}
use Rattle.host_trace.specs.Projections.{child_out, tick_count, shut}

abbrev pub is_websocket : ScriptKind → Bool
is_websocket WebSocket = true
is_websocket Cgi = false
is_websocket Nph = false

-- ---- the rows, each a test of an item x, and of what stands between the Start of k and x

-- the ChildBytes by which the output passes its limit
abbrev pub passes_output : Limits → ℕ → List Item → Item → Bool
passes_output limits k front x = is_child_bytes k x && nat_lt limits.output (length (child_out (front ++ x ∷ []) k))

-- the Tick with the number of the run time
abbrev pub is_last_tick : Limits → List Item → Item → Bool
is_last_tick limits front x = is_tick x && tick_count front + 1 == limits.run_ticks

-- a text of the client that is too long
abbrev pub is_long_text : Limits → ℕ → Item → Bool
is_long_text limits c (In (WsText d bytes)) = c == d && nat_lt limits.ws_text (length bytes)
is_long_text limits c _ = false

abbrev pub is_line_feed : ℕ → Bool
is_line_feed byte = byte == 10

-- more than `most` bytes in a row without a line feed
abbrev pub has_long_line : ℕ → List ℕ → Bool
has_long_line most bytes = list_any (λ line. nat_lt most (length line)) (slice_split is_line_feed bytes)

-- the ChildBytes that makes a line too long
abbrev pub makes_long_line : Limits → ℕ → List Item → Item → Bool
makes_long_line limits k front x = is_child_bytes k x && has_long_line limits.ws_text (child_out (front ++ x ∷ []) k)

-- the connection can't use the answer any more
abbrev pub ends_connection : ℕ → Item → Bool
ends_connection c x =
    is_client_gone c x || is_ws_bad c x || is_ws_binary c x || is_no_room c x || is_shut_for_memory c x || is_stop x

-- x decides child k of connection c
abbrev pub decides : Limits → ScriptKind → ℕ → ℕ → List Item → Item → Bool
decides limits kind c k front x =
    is_child_eof k x || is_start_failed k x || is_start_full k x || is_child_broken k x || ends_connection c x
    || (if is_websocket kind
    then not (shut front c) && (is_long_text limits c x || makes_long_line limits k front x)
    else passes_output limits k front x || is_last_tick limits front x)

-- ---- the decider

-- the items after the Start of k up to and with the one that decides
abbrev pub decided_front : Limits → ScriptKind → List Item → ℕ → ℕ → Option (List Item)
decided_front limits kind T c k = first_front (decides limits kind c k) (since (is_start k) T)

abbrev pub decider : Limits → ScriptKind → List Item → ℕ → ℕ → Option Item
decider limits kind T c k = option_and_then last_of (decided_front limits kind T c k)

-- ---- what the decider makes of the run

-- the reply is derived from the whole output, or the run failed for a cause, or there is none
pub data Outcome : Type 0 where
  derived unanswered : Outcome
  failed : Cause → Outcome

abbrev pub seen_by : Item → ℕ
seen_by (In (StartFull k seen)) = seen
seen_by _ = 0

-- the outcome of a run that x decides
abbrev pub outcome_by : ScriptKind → ℕ → Item → Outcome
outcome_by kind k x =
    if is_child_eof k x then derived
    else (if is_start_failed k x then failed StartFailedCause
    else (if is_start_full k x then failed (Full (seen_by x))
    else (if is_child_broken k x then failed OutputBroken
    else (if is_websocket kind then unanswered
    else (if is_child_bytes k x then failed OutputTooLarge
    else (if is_tick x then failed RunTime else unanswered))))))

abbrev pub outcome : Limits → ScriptKind → List Item → ℕ → ℕ → Option Outcome
outcome limits kind T c k = option_map (outcome_by kind k) (decider limits kind T c k)
