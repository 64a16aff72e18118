-- What a run is owed at a step's end. `items` are the items up to there.
use Rattle.std.specs.Prelude.{ℕ, Bool, not, ◌&&◌, ◌||◌, ◌==◌, nat_le, List, length, bytes_eq}
use Rattle.std.specs.List.{list_any}
use Rattle.host_base.specs.declared.limits.Limits.{Limits}
use Rattle.host_trace.specs.declared.items.Item.{Item}
use Rattle.host_trace.specs.First.{since}
use Rattle.host_trace.specs.Kinds.{is_child_eof, is_client_gone, is_ws_bad, is_ws_closed, is_no_room, is_shut_for_memory, is_stop}
use Rattle.host_trace.specs.Projections.{child_in, took_sum, tick_count, started, exited, killed, output_ended, input_ended}
use Rattle.host_trace.specs.Decider.{is_websocket}
use Rattle.trace_child.specs.Run.{Run, takes_body}
use Rattle.trace_child.specs.Decided.{is_decided, is_by_output, is_by_other}

-- ---- its input

-- the input pipe took all that was fed
abbrev pub is_all_taken : List Item → ℕ → Bool
is_all_taken items k = took_sum items k == length (child_in items k)

-- the whole body was fed
abbrev pub is_fed_whole : Run → List Item → Bool
is_fed_whole run items =
    takes_body run && (run.offered items).whole && bytes_eq (child_in items run.child) (run.offered items).body

-- ---- a WebSocket whose client closed it

abbrev pub is_hung_up : Run → List Item → Bool
is_hung_up run items = is_websocket run.kind && list_any (is_ws_closed run.conn) items

-- .. and nothing decided the run for as long as a child may linger
abbrev pub is_left_alone : Run → List Item → Bool
is_left_alone run items =
    is_hung_up run items && not (is_decided run items)
    && nat_le run.limits.linger_ticks (tick_count (since (is_ws_closed run.conn) items))

-- ---- a child that lingers after its output

-- nobody waits for it after x
abbrev pub ends_waiting : ℕ → Item → Bool
ends_waiting c x = is_stop x || is_client_gone c x || is_ws_bad c x || is_no_room c x || is_shut_for_memory c x

abbrev pub is_waited_out : Limits → ℕ → List Item → Bool
is_waited_out limits c later = nat_le limits.linger_ticks (tick_count later) || list_any (ends_waiting c) later

abbrev pub has_lingered : Run → List Item → Bool
has_lingered run items =
    is_by_output run items && is_waited_out run.limits run.conn (since (is_child_eof run.child) items)

-- ---- its acts

-- its input is to be ended
abbrev pub must_end_input : Run → List Item → Bool
must_end_input run items =
    started items run.child
    && (is_decided run items || is_hung_up run items || not (exited items run.child) && is_fed_whole run items)

-- it is to be killed
abbrev pub must_kill : Run → List Item → Bool
must_kill run items =
    started items run.child && not (exited items run.child)
    && (is_by_other run items || is_left_alone run items || has_lingered run items)

-- its output is to be given up
abbrev pub must_release : Run → List Item → Bool
must_release run items =
    started items run.child && exited items run.child
    && (is_by_other run items || is_left_alone run items || killed items run.child)

-- its output is to be asked for, where not too much waits to be sent
abbrev pub must_ask : Run → Bool → List Item → Bool
must_ask run room items =
    started items run.child && not (is_decided run items) && not (killed items run.child)
    && not (output_ended items run.child) && room

-- a text of its client may be heard for it
abbrev pub takes_text : Run → List Item → Bool
takes_text run items =
    started items run.child && (is_all_taken items run.child || input_ended items run.child || exited items run.child)
