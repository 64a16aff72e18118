-- What an event makes of a talk, and of the run of its child.
use Rattle.std.specs.Prelude.{ℕ, Bool, true, false, not, ◌&&◌, ◌||◌, ◌==◌, nat_lt, List, [], ◌++◌, length, Option, Some, None, is_some, if◌then◌else◌}
use Rattle.host_trace.specs.declared.items.Event.{Event}
use Rattle.host_trace.specs.declared.items.Event.TheVariants.{StartFailed, StartFull, ChildBytes, ChildEof, ChildBroken, WsText, WsBinary}
use Rattle.host_trace.specs.declared.items.Item.TheVariants.{In}
use Rattle.host_trace.specs.Kinds.{is_ws_closed}
use Rattle.head_lines.specs.Lines.{with_lf}
use Rattle.line_messages.specs.Lines.{lines_within, last_within, has_long_line, open_line}
use Rattle.child_core.specs.View.{View as RunView, Note, noted, cleared}
use Rattle.child_core.specs.declared.ending.Ending.TheVariants.{Dropped}
use Rattle.child_core.specs.Calls.{ended, takes_input}
use Rattle.talk_core.specs.View.{View, given_up}

-- ---- what the run hears with it

abbrev pub kept : Bool → List ℕ → List ℕ
kept true bytes = bytes
kept false bytes = []

-- the event makes a text or a line too long
abbrev pub too_long : View → Event → Bool
too_long t (WsText d bytes) = not t.over && t.conn == d && nat_lt t.limit (length bytes)
too_long t (ChildBytes d bytes) = not t.over && t.child == d && has_long_line t.limit (t.rest ++ bytes)
too_long t _ = false

-- what is offered for the child's input, where it takes more: a text that isn't too long is a line
abbrev pub text_line : ℕ → Bool → List ℕ → List ℕ
text_line limit takes bytes = kept (not (nat_lt limit (length bytes)) && takes) (with_lf bytes)

abbrev pub line_of : View → RunView → Event → List ℕ
line_of t v (WsText d bytes) = kept (not t.over && t.conn == d) (text_line t.limit (takes_input v) bytes)
line_of t v _ = []

abbrev pub note_of : View → RunView → Event → Note
note_of t v ev = record { more = line_of t v ev; last = false; refused = too_long t ev; found = true }

abbrev pub run_heard : View → RunView → Event → RunView
run_heard t v ev = noted t.conn v (note_of t v ev) (In ev)

-- where no memory was found, the run is ended for it
abbrev pub run_heard_by : Bool → View → RunView → Event → RunView
run_heard_by true t v ev = run_heard t v ev
run_heard_by false t v ev = ended (run_heard t v ev) Dropped

-- ---- what becomes of the talk

abbrev pub rest_of : ℕ → List ℕ → List ℕ
rest_of limit output = cleared (has_long_line limit output) (open_line output)

-- the messages that the event gives: those of the lines that it ends, and at the end of the output that of the rest
abbrev pub messages : View → Event → List (List ℕ)
messages t (ChildBytes d bytes) = if t.child == d then lines_within t.limit (t.rest ++ bytes) else []
messages t (ChildEof d) = if t.child == d then last_within t.limit t.rest else []
messages t _ = []

-- what stands behind the last LF then; nothing where a line was too long, and at the end of the output
abbrev pub rest_after : View → Event → List ℕ
rest_after t (ChildBytes d bytes) = if t.child == d then rest_of t.limit (t.rest ++ bytes) else t.rest
rest_after t (ChildEof d) = if t.child == d then [] else t.rest
rest_after t _ = t.rest

-- the code of the close frame for a talk that the event ends (RFC 6455 7.4.1)
abbrev pub when_named : Bool → ℕ → Option ℕ
when_named true code = Some code
when_named false code = None

abbrev pub code_of : ℕ → ℕ → Event → Option ℕ
code_of c k (ChildEof d) = when_named (k == d) 1000
code_of c k (WsBinary d) = when_named (c == d) 1003
code_of c k (WsText d bytes) = when_named (c == d) 1009
code_of c k (ChildBytes d bytes) = when_named (k == d) 1011
code_of c k (ChildBroken d) = when_named (k == d) 1011
code_of c k (StartFailed d) = when_named (k == d) 1011
code_of c k (StartFull d seen) = when_named (k == d) 1011
code_of c k _ = None

-- it ends where the run is decided, or the client closed its WebSocket
abbrev pub ends : View → RunView → Event → Bool
ends t v ev = is_some (run_heard t v ev).outcome || is_ws_closed t.conn (In ev)

abbrev pub code_if : Bool → Option ℕ → Option ℕ
code_if true code = code
code_if false code = None

abbrev pub heard_going : View → Event → Bool → View
heard_going t ev over = record t {
  rest = cleared over (rest_after t ev);
  texts = messages t ev;
  code = code_if over (code_of t.conn t.child ev);
  over = over;
}

-- a talk that is over hears nothing more
abbrev pub heard_unless : Bool → View → RunView → Event → View
heard_unless true t v ev = t
heard_unless false t v ev = heard_going t ev (ends t v ev)

abbrev pub heard : View → RunView → Event → View
heard t v ev = heard_unless t.over t v ev

abbrev pub heard_by : Bool → View → RunView → Event → View
heard_by true t v ev = heard t v ev
heard_by false t v ev = given_up t

-- ---- want of memory

-- the event carries what is kept or said
abbrev pub takes_memory : View → Event → Bool
takes_memory t (WsText d bytes) = not t.over && t.conn == d
takes_memory t (ChildBytes d bytes) = not t.over && t.child == d
takes_memory t (ChildEof d) = not t.over && t.child == d
takes_memory t _ = false

-- ---- on the way to that

-- what the event brings has been taken
abbrev pub taken : View → Event → View
taken t ev = record t { rest = rest_after t ev; texts = messages t ev }

abbrev pub read_on : View → List ℕ → View
read_on t piece = record t { rest = rest_of t.limit (t.rest ++ piece); texts = lines_within t.limit (t.rest ++ piece) }

abbrev pub read_out : View → View
read_out t = record t { rest = []; texts = last_within t.limit t.rest }

-- .. and the talk goes on or ends
abbrev pub ended_if : Bool → View → Event → View
ended_if over t ev = record t { rest = cleared over t.rest; code = code_if over (code_of t.conn t.child ev); over = over }
