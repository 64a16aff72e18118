-- What is known of a run, and what one more item makes of it.
use Rattle.std.specs.Prelude.{ℕ, zero, suc, Bool, true, false, not, ◌||◌, ◌&&◌, ◌+◌, ◌-◌, ◌==◌, nat_lt, List, [], ◌∷◌, ◌++◌, length, drop, Option, Some, None, is_some, if◌then◌else◌}
use Rattle.host_base.specs.declared.cause.Cause.TheVariants.{StartFailed as StartFailedCause, OutputBroken, OutputTooLarge, RunTime, Full, Incomplete}
use Rattle.host_base.specs.declared.limits.Limits.{Limits}
use Rattle.host_base.specs.declared.site.ScriptKind.{ScriptKind}
use Rattle.host_trace.specs.declared.items.Event.TheVariants.{ClientEof, ClientGone, StartFailed, StartFull, ChildBytes, ChildEof, ChildBroken, WsText, WsBinary, WsBad, NoRoom, Tick, Stop}
use Rattle.host_trace.specs.declared.items.Act.TheVariants.{Shut}
use Rattle.host_trace.specs.declared.items.Item.{Item}
use Rattle.host_trace.specs.declared.items.Item.TheVariants.{In, Out}
use Rattle.host_trace.specs.First.{or_else}
use Rattle.host_trace.specs.Kinds.{is_started, is_exited, is_input_end, is_output_end, is_kill, is_want_child, is_child_answer, is_tick, is_ws_closed, is_no_memory, output_heard, input_fed, count_took}
use Rattle.host_trace.specs.Account.{is_refusal}
use Rattle.host_trace.specs.Decider.{is_websocket}
use Rattle.trace_child.specs.ChildDemands.{ends_waiting}
use Rattle.child_core.specs.declared.ending.Outcome.{Outcome}
use Rattle.child_core.specs.declared.ending.Outcome.TheVariants.{Output, Failed, Gone, Stopped, Dropped}

pub record View : Type 0 where
  pub number : ℕ
  pub kind : ScriptKind
  pub book : ℕ  -- how many children may run
  pub linger_ticks : ℕ
  pub started : Bool
  pub refused : Bool  -- it could not be started
  pub exited : Bool
  pub input_ended : Bool
  pub output_ended : Bool
  pub killed : Bool
  pub asked : Bool  -- its output was asked for and has not come
  pub outcome : Option Outcome
  pub hung_up : Bool  -- the client closed its WebSocket
  pub abandoned : Bool  -- its output ended, and nobody waits for it any more
  pub run_left : ℕ  -- Ticks until its run time is over
  pub linger_left : ℕ  -- Ticks until it has lingered as long as it may
  pub output_left : ℕ  -- bytes until its output is as long as it may be
  pub unfed : List ℕ  -- offered and not fed yet
  pub whole : Bool  -- all was offered
  pub untaken : ℕ  -- how many bytes were fed and not taken yet
  pub output : List ℕ  -- heard and not drained

-- a run whose Start is given
abbrev pub begun : ℕ → ScriptKind → Limits → View
begun k kind limits = record {
  number = k;
  kind = kind;
  book = limits.children;
  linger_ticks = limits.linger_ticks;
  started = false;
  refused = false;
  exited = false;
  input_ended = false;
  output_ended = false;
  killed = false;
  asked = false;
  outcome = None;
  hung_up = false;
  abandoned = false;
  run_left = limits.run_ticks;
  linger_left = limits.linger_ticks;
  output_left = limits.output;
  unfed = [];
  whole = false;
  untaken = 0;
  output = [];
}

-- ---- what an item comes with

-- `more` bytes were offered with it, the last ones or not; it made a text or a line of a WebSocket too long or not; and
-- there was room for the output that it carries or not
pub record Note : Type 0 where
  pub more : List ℕ
  pub last : Bool
  pub refused : Bool
  pub found : Bool

abbrev pub plain : Note
plain = record { more = []; last = false; refused = false; found = true }

-- ---- outcomes

abbrev pub is_output : Option Outcome → Bool
is_output (Some Output) = true
is_output _ = false

-- decided, and by another item than the end of its output
abbrev pub is_other : Option Outcome → Bool
is_other outcome = is_some outcome && not (is_output outcome)

abbrev pub chosen : Bool → Outcome → Option Outcome
chosen true outcome = Some outcome
chosen false outcome = None

-- output of a WebSocket's program decides by a long line, other output by its length
abbrev pub by_bytes : Bool → Bool → Bool → Option Outcome
by_bytes true refused long = chosen refused Dropped
by_bytes false refused long = chosen long (Failed OutputTooLarge)

-- what an item decides of a run of connection c that nothing decided
abbrev pub verdict : ℕ → View → Note → Item → Option Outcome
verdict c v n (In (ChildEof k)) = chosen (v.number == k) Output
verdict c v n (In (StartFailed k)) = chosen (v.number == k) (Failed StartFailedCause)
verdict c v n (In (StartFull k seen)) = chosen (v.number == k) (Failed (Full seen))
verdict c v n (In (ChildBroken k)) = chosen (v.number == k) (Failed OutputBroken)
verdict c v n (In (ChildBytes k bytes)) = by_bytes (is_websocket v.kind) n.refused (v.number == k && nat_lt v.output_left (length bytes))
verdict c v n (In (Tick secs)) = chosen (not (is_websocket v.kind) && v.run_left == 1) (Failed RunTime)
verdict c v n (In Stop) = Some Stopped
verdict c v n (In (ClientGone d)) = chosen (c == d) Gone
verdict c v n (In (ClientEof d)) = chosen (c == d && (not (is_websocket v.kind) && not v.whole)) (Failed Incomplete)
verdict c v n (In (WsText d bytes)) = chosen (is_websocket v.kind && n.refused) Dropped
verdict c v n (In (WsBinary d)) = chosen (c == d) Dropped
verdict c v n (In (WsBad d)) = chosen (c == d) Gone
verdict c v n (In (NoRoom d)) = chosen (c == d) Dropped
verdict c v n (Out (Shut d why)) = chosen (c == d && is_no_memory why) Dropped
verdict c v n _ = None

-- what was decided stays
abbrev pub outcome_after : ℕ → View → Note → Item → Option Outcome
outcome_after c v n x = or_else v.outcome (verdict c v n x)

-- the item decides it, and is the end of its output
abbrev pub ends_now : ℕ → View → Note → Item → Bool
ends_now c v n x = not (is_some v.outcome) && is_output (verdict c v n x)

-- ---- small words, each of which leaves the old value where nothing is added

abbrev pub asked_by : Bool → Bool → Bool → Bool
asked_by true answers old = true
asked_by false true old = false
asked_by false false old = old

abbrev pub ticked : Bool → ℕ → ℕ
ticked true n = n - 1
ticked false n = n

-- bytes at the end, where they still count
abbrev pub more_if : List ℕ → Bool → List ℕ → List ℕ
more_if [] counts old = old
more_if (b ∷ bytes) true old = old ++ b ∷ bytes
more_if (b ∷ bytes) false old = old

abbrev pub without : List ℕ → List ℕ → List ℕ
without [] old = old
without (b ∷ bytes) old = drop (length (b ∷ bytes)) old

abbrev pub more_by : List ℕ → ℕ → ℕ
more_by [] n = n
more_by (b ∷ bytes) n = n + length (b ∷ bytes)

abbrev pub less_by : ℕ → ℕ → ℕ
less_by zero n = n
less_by (suc m) n = n - suc m

abbrev pub cleared : Bool → List ℕ → List ℕ
cleared true bytes = []
cleared false bytes = bytes

-- the output is not kept: that of a WebSocket's program, and that of a run that was decided by another item
abbrev pub drops_output : ScriptKind → Option Outcome → Bool
drops_output kind outcome = is_websocket kind || is_other outcome

-- ---- one more item of the list, for a run of connection c

abbrev pub noted : ℕ → View → Note → Item → View
noted c v n x = record v {
  started = is_started v.number x || v.started;
  refused = is_refusal v.number x || v.refused;
  exited = is_exited v.number x || v.exited;
  input_ended = is_input_end v.number x || v.input_ended;
  output_ended = is_output_end v.number x || v.output_ended;
  killed = is_kill v.number x || v.killed;
  asked = asked_by (is_want_child v.number x) (is_child_answer v.number x) v.asked;
  outcome = outcome_after c v n x;
  hung_up = is_websocket v.kind && is_ws_closed c x || v.hung_up;
  abandoned = not (ends_now c v n x) && (ends_waiting c x || v.abandoned);
  run_left = ticked (is_tick x) v.run_left;
  linger_left = if ends_now c v n x then v.linger_ticks else ticked (is_tick x && (is_output v.outcome || v.hung_up)) v.linger_left;
  output_left = less_by (length (output_heard v.number x)) v.output_left;
  unfed = cleared (is_some (verdict c v n x)) (more_if n.more (not (is_some v.outcome)) (without (input_fed v.number x) v.unfed));
  whole = not (is_some (verdict c v n x)) && (n.last && not (is_some v.outcome) || v.whole);
  untaken = less_by (count_took v.number x) (more_by (input_fed v.number x) v.untaken);
  output = cleared (is_some (verdict c v n x) && drops_output v.kind (outcome_after c v n x)) (more_if (output_heard v.number x) (n.found && not (drops_output v.kind (outcome_after c v n x))) v.output);
}
