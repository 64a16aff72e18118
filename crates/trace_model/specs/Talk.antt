-- A WebSocket: what is said and fed, and what ends it.
use Rattle.std.specs.Prelude.{ℕ, Bool, not, ◌||◌, ◌==◌, nat_lt, if◌then◌else◌, List, [], ◌∷◌, ◌++◌, length, map, filter, Option, Some, None, option_and_then}
use Rattle.std.specs.List.{flat_map}
use Rattle.host_trace.specs.declared.items.Act.TheVariants.{CloseWs, Feed}
use Rattle.host_trace.specs.declared.items.Item.{Item}
use Rattle.host_trace.specs.declared.items.Item.TheVariants.{Out}
use Rattle.host_trace.specs.Kinds.{is_shut, is_input_end, is_kill, is_exited, is_ws_closed, is_ws_binary, is_ws_text, is_child_eof, is_child_bytes, is_child_broken, is_start_failed, is_start_full}
use Rattle.host_trace.specs.Projections.{child_out, heard, output_eof}
use Rattle.host_trace.specs.First.{first_front, last_of}
use Rattle.head_lines.specs.Lines.{with_lf}
use Rattle.line_messages.specs.Lines.{lines_within, last_within}
use Rattle.trace_child.specs.Words.{until}
use Rattle.trace_child.specs.Run.{Run}
use Rattle.trace_child.specs.Decided.{decides_run}

-- ---- texts

-- the messages of an output: its lines, and what stands behind the last one where the output has ended
abbrev pub messages_by : ℕ → ℕ → List Item → List (List ℕ)
messages_by limit k front =
    lines_within limit (child_out front k) ++ (if output_eof front k then last_within limit (child_out front k) else [])

-- what is said: the messages of the output that was heard before the connection was shut
abbrev pub texts_due : Run → List Item → List (List ℕ)
texts_due run items = messages_by run.limits.ws_text run.child (until (is_shut run.conn) items)

-- x ends what is fed to k
abbrev pub ends_input : ℕ → Item → Bool
ends_input k x = is_input_end k x || is_kill k x || is_exited k x

abbrev pub is_short : ℕ → List ℕ → Bool
is_short limit text = not (nat_lt limit (length text))

-- what is fed: each text that the client sent before that, but one that is too long, as a line of its own
abbrev pub input_due : Run → List Item → List (List ℕ)
input_due run items = map with_lf (filter (is_short run.limits.ws_text) (heard (until (ends_input run.child) items) run.conn))

-- the pieces that k was fed
abbrev pub piece_fed : ℕ → Item → List (List ℕ)
piece_fed k (Out (Feed d bytes)) = if k == d then bytes ∷ [] else []
piece_fed k _ = []

abbrev pub pieces_fed : List Item → ℕ → List (List ℕ)
pieces_fed items k = flat_map (piece_fed k) items

-- ---- its end

abbrev pub ends_talk : Run → List Item → Item → Bool
ends_talk run front x = decides_run run front x || is_ws_closed run.conn x

-- the item that ends it
abbrev pub talk_end : Run → List Item → Option Item
talk_end run items = option_and_then last_of (first_front (ends_talk run) items)

-- the code of the close frame that it ends with, if one is sent (RFC 6455 7.4.1)
abbrev pub code_by : ℕ → ℕ → Item → List ℕ
code_by c k x =
    if is_child_eof k x then 1000 ∷ []
    else (if is_ws_binary c x then 1003 ∷ []
    else (if is_ws_text c x then 1009 ∷ []
    else (if is_child_bytes k x || is_child_broken k x || is_start_failed k x || is_start_full k x then 1011 ∷ [] else [])))

abbrev pub code_at : ℕ → ℕ → Option Item → List ℕ
code_at c k None = []
code_at c k (Some x) = code_by c k x

abbrev pub code_due : Run → List Item → List ℕ
code_due run items = code_at run.conn run.child (talk_end run items)

abbrev pub close_code : ℕ → Item → List ℕ
close_code c (Out (CloseWs d code)) = if c == d then code ∷ [] else []
close_code c _ = []

-- the codes of the close frames sent
abbrev pub codes_sent : List Item → ℕ → List ℕ
codes_sent items c = flat_map (close_code c) items
