-- What the rules on a child say of small traces, by computation.
use Rattle.std.proofs.Common.{◌≡◌, Bool, true, List, [], ◌∷◌, ◌++◌, Some, None, refl, length}
use Rattle.std.specs.Prelude.{codes, nat_le}
use Rattle.std.specs.List.{list_all}
use Rattle.host_base.specs.declared.launch.Launch.{Launch}
use Rattle.host_base.specs.declared.cause.Cause.TheVariants.{Full, RunTime, OutputTooLarge, OutputBroken, Incomplete, StartFailed as StartFailedCause}
use Rattle.host_base.specs.declared.limits.Limits.{Limits}
use Rattle.host_base.specs.declared.site.ScriptKind.TheVariants.{Cgi, WebSocket}
use Rattle.host_base.specs.LimitRanges.{default_limits}
use Rattle.host_trace.specs.declared.items.Event.TheVariants.{ClientBytes, ClientEof, ClientGone, Started, StartFailed, StartFull, ChildBytes, ChildEof, ChildBroken, Took, InputGone, Exited, WsText, WsBinary, WsClosed, WsBad, NoRoom, Tick, Stop}
use Rattle.host_trace.specs.declared.items.Act.TheVariants.{WantClient, Write, Shut, Start, Feed, EndInput, WantChild, Kill, Release}
use Rattle.host_trace.specs.declared.items.Item.{Item}
use Rattle.host_trace.specs.declared.items.Item.TheVariants.{In, Out}
use Rattle.host_trace.specs.declared.items.Why.TheVariants.{Done, NoMemory}
use Rattle.host_trace.specs.Trace.{Step, steps, end_of}
use Rattle.host_trace.specs.Account.{settled}
use Rattle.host_trace.specs.Decider.{derived, failed, unanswered}
use Rattle.host_trace.specs.Projections.{client_in}
use Rattle.trace_child.specs.Run.{Run, Offer, no_body}
use Rattle.trace_child.specs.Decided.{outcome_of}
use Rattle.trace_child.specs.ChildGood.{is_child_good}

-- ---- the runs of these traces: child 0 of connection 0, with small limits

abbrev pub short : Limits
short = record default_limits { run_ticks = 3; linger_ticks = 2; output = 3; ws_text = 2 }

abbrev pub plain : Run
plain = record { conn = 0; child = 0; kind = Cgi; limits = short; offered = no_body }

abbrev pub talking : Run
talking = record plain { kind = WebSocket }

-- a request whose body has three bytes; in these traces all bytes of the client are of the body
abbrev pub three_bytes : List Item → Offer
three_bytes items = record { body = client_in items 0; whole = nat_le 3 (length (client_in items 0)) }

abbrev pub posting : Run
posting = record plain { offered = three_bytes }

abbrev pub begun : Launch → List Item
begun launch = Out (Start 0 0 0 0 launch) ∷ []

abbrev pub running : Launch → List Item
running launch = In (Tick 0) ∷ Out (Start 0 0 0 0 launch) ∷ In (Started 0) ∷ Out (EndInput 0) ∷ Out (WantChild 0) ∷ []

-- all rules on the child hold at each step's end, where not too much waits to be sent
abbrev pub is_good_step : Run → Step → Bool
is_good_step run s = is_child_good run true (s.before ++ In s.event ∷ []) s.acts (end_of s)

abbrev pub is_good : Run → List Item → Bool
is_good run T = list_all (is_good_step run) (steps T)

-- ---- what decides, row by row

output_end_decides : (launch : Launch) → outcome_of plain (running launch ++ In (ChildEof 0) ∷ []) ≡ Some derived
output_end_decides launch = refl

failed_start_decides : (launch : Launch) → outcome_of plain (begun launch ++ In (StartFailed 0) ∷ []) ≡ Some (failed StartFailedCause)
failed_start_decides launch = refl

full_book_decides : (launch : Launch) → outcome_of plain (begun launch ++ In (StartFull 0 64) ∷ []) ≡ Some (failed (Full 64))
full_book_decides launch = refl

broken_output_decides : (launch : Launch) → outcome_of plain (running launch ++ In (ChildBroken 0) ∷ []) ≡ Some (failed OutputBroken)
broken_output_decides launch = refl

output_at_its_limit_does_not : (launch : Launch) → outcome_of plain (running launch ++ In (ChildBytes 0 (codes "abc")) ∷ []) ≡ None
output_at_its_limit_does_not launch = refl

output_past_its_limit_decides : (launch : Launch) → outcome_of plain (running launch ++ In (ChildBytes 0 (codes "abc")) ∷ In (ChildBytes 0 (codes "d")) ∷ []) ≡ Some (failed OutputTooLarge)
output_past_its_limit_decides launch = refl

-- the Tick before its Start is none of its time
second_tick_does_not : (launch : Launch) → outcome_of plain (running launch ++ In (Tick 0) ∷ In (Tick 0) ∷ []) ≡ None
second_tick_does_not launch = refl

third_tick_decides : (launch : Launch) → outcome_of plain (running launch ++ In (Tick 0) ∷ In (Tick 0) ∷ In (Tick 0) ∷ []) ≡ Some (failed RunTime)
third_tick_decides launch = refl

client_end_within_the_body_decides : (launch : Launch) → outcome_of posting (In (ClientBytes 0 (codes "ab")) ∷ begun launch ++ In (ClientEof 0) ∷ []) ≡ Some (failed Incomplete)
client_end_within_the_body_decides launch = refl

client_end_after_the_body_does_not : (launch : Launch) → outcome_of posting (In (ClientBytes 0 (codes "abc")) ∷ begun launch ++ In (ClientEof 0) ∷ []) ≡ None
client_end_after_the_body_does_not launch = refl

-- a hop after a local redirect awaits no body
client_end_of_a_later_hop_does_not : (launch : Launch) → outcome_of plain (begun launch ++ In (ClientEof 0) ∷ []) ≡ None
client_end_of_a_later_hop_does_not launch = refl

client_end_before_the_start_does_not : (launch : Launch) → outcome_of posting (In (ClientBytes 0 (codes "ab")) ∷ In (ClientEof 0) ∷ begun launch) ≡ None
client_end_before_the_start_does_not launch = refl

lost_client_decides : (launch : Launch) → outcome_of plain (running launch ++ In (ClientGone 0) ∷ []) ≡ Some unanswered
lost_client_decides launch = refl

refused_frame_decides : (launch : Launch) → outcome_of plain (running launch ++ In (WsBad 0) ∷ []) ≡ Some unanswered
refused_frame_decides launch = refl

binary_message_decides : (launch : Launch) → outcome_of plain (running launch ++ In (WsBinary 0) ∷ []) ≡ Some unanswered
binary_message_decides launch = refl

no_room_decides : (launch : Launch) → outcome_of plain (running launch ++ In (NoRoom 0) ∷ []) ≡ Some unanswered
no_room_decides launch = refl

want_of_memory_decides : (launch : Launch) → outcome_of plain (running launch ++ Out (Shut 0 NoMemory) ∷ []) ≡ Some unanswered
want_of_memory_decides launch = refl

stop_decides : (launch : Launch) → outcome_of plain (running launch ++ In Stop ∷ []) ≡ Some unanswered
stop_decides launch = refl

other_reasons_do_not : (launch : Launch) → outcome_of plain (running launch ++ Out (Shut 0 Done) ∷ []) ≡ None
other_reasons_do_not launch = refl

lost_client_of_another_does_not : (launch : Launch) → outcome_of plain (running launch ++ In (ClientGone 1) ∷ []) ≡ None
lost_client_of_another_does_not launch = refl

first_item_decides : (launch : Launch) → outcome_of plain (running launch ++ In (ChildEof 0) ∷ In (ClientGone 0) ∷ In Stop ∷ []) ≡ Some derived
first_item_decides launch = refl

long_text_decides : (launch : Launch) → outcome_of talking (running launch ++ In (WsText 0 (codes "ab")) ∷ In (WsText 0 (codes "abc")) ∷ []) ≡ Some unanswered
long_text_decides launch = refl

long_line_decides : (launch : Launch) → outcome_of talking (running launch ++ In (ChildBytes 0 (codes "ab\nab")) ∷ In (ChildBytes 0 (codes "c")) ∷ []) ≡ Some unanswered
long_line_decides launch = refl

long_line_after_shut_does_not : (launch : Launch) → outcome_of talking (running launch ++ Out (Shut 0 Done) ∷ In (ChildBytes 0 (codes "abc")) ∷ []) ≡ None
long_line_after_shut_does_not launch = refl

talks_have_no_limit_of_output_and_time : (launch : Launch) → outcome_of talking (running launch ++ In (ChildBytes 0 (codes "a\nb\nc\n")) ∷ In (Tick 0) ∷ In (Tick 0) ∷ In (Tick 0) ∷ []) ≡ None
talks_have_no_limit_of_output_and_time launch = refl

close_of_the_client_does_not : (launch : Launch) → outcome_of talking (running launch ++ In (WsClosed 0) ∷ []) ≡ None
close_of_the_client_does_not launch = refl

-- ---- whole lives

output_and_exit : (launch : Launch) → is_good plain (running launch ++ In (ChildBytes 0 (codes "hi")) ∷ Out (WantChild 0) ∷ In (ChildEof 0) ∷ Out (Write 0 (codes "hi")) ∷ Out (Shut 0 Done) ∷ In (Exited 0) ∷ []) ≡ true
output_and_exit launch = refl

body_in_two_pieces : (launch : Launch) → is_good posting (In (ClientBytes 0 (codes "a")) ∷ Out (Start 0 0 0 0 launch) ∷ In (Started 0) ∷ Out (Feed 0 (codes "a")) ∷ Out (WantChild 0) ∷ In (Took 0 1) ∷ Out (WantClient 0) ∷ In (ClientBytes 0 (codes "bc")) ∷ Out (Feed 0 (codes "bc")) ∷ Out (EndInput 0) ∷ In (Took 0 2) ∷ In (ChildEof 0) ∷ In (Exited 0) ∷ []) ≡ true
body_in_two_pieces launch = refl

bytes_wait_for_took : (launch : Launch) → is_good posting (In (ClientBytes 0 (codes "a")) ∷ Out (Start 0 0 0 0 launch) ∷ In (Started 0) ∷ Out (Feed 0 (codes "a")) ∷ Out (WantChild 0) ∷ In (ClientBytes 0 (codes "bc")) ∷ In (Took 0 1) ∷ Out (Feed 0 (codes "bc")) ∷ Out (EndInput 0) ∷ []) ≡ true
bytes_wait_for_took launch = refl

client_ends_within_the_body : (launch : Launch) → is_good posting (In (ClientBytes 0 (codes "a")) ∷ Out (Start 0 0 0 0 launch) ∷ In (Started 0) ∷ Out (Feed 0 (codes "a")) ∷ Out (WantChild 0) ∷ In (ClientEof 0) ∷ Out (EndInput 0) ∷ Out (Kill 0) ∷ In (Exited 0) ∷ Out (Release 0) ∷ []) ≡ true
client_ends_within_the_body launch = refl

-- nothing is fed to an input that failed
input_gone : (launch : Launch) → is_good posting (In (ClientBytes 0 (codes "a")) ∷ Out (Start 0 0 0 0 launch) ∷ In (Started 0) ∷ Out (Feed 0 (codes "a")) ∷ Out (WantChild 0) ∷ In (InputGone 0) ∷ In (ClientBytes 0 (codes "bc")) ∷ In (ChildEof 0) ∷ In (Exited 0) ∷ []) ≡ true
input_gone launch = refl

lingers_and_is_killed : (launch : Launch) → is_good plain (running launch ++ In (ChildEof 0) ∷ In (Tick 0) ∷ In (Tick 0) ∷ Out (Kill 0) ∷ In (Exited 0) ∷ []) ≡ true
lingers_and_is_killed launch = refl

lingers_until_stop : (launch : Launch) → is_good plain (running launch ++ In (ChildEof 0) ∷ In Stop ∷ Out (Kill 0) ∷ []) ≡ true
lingers_until_stop launch = refl

run_too_long : (launch : Launch) → is_good plain (running launch ++ In (Tick 0) ∷ In (Tick 0) ∷ In (Tick 0) ∷ Out (Kill 0) ∷ In (Exited 0) ∷ Out (Release 0) ∷ []) ≡ true
run_too_long launch = refl

gone_before_it_started : (launch : Launch) → is_good plain (In (Tick 0) ∷ Out (Start 0 0 0 0 launch) ∷ In (ClientGone 0) ∷ In (Started 0) ∷ Out (EndInput 0) ∷ Out (Kill 0) ∷ In (Exited 0) ∷ Out (Release 0) ∷ []) ≡ true
gone_before_it_started launch = refl

exited_with_its_output_open : (launch : Launch) → is_good plain (running launch ++ In (Exited 0) ∷ In (ClientGone 0) ∷ Out (Release 0) ∷ []) ≡ true
exited_with_its_output_open launch = refl

refused_start : (launch : Launch) → is_good plain (In (Tick 0) ∷ Out (Start 0 0 0 0 launch) ∷ In (StartFull 0 1) ∷ []) ≡ true
refused_start launch = refl

-- what comes then is dropped, and at the last tick it is killed
client_closed_its_websocket : (launch : Launch) → is_good talking (In (Tick 0) ∷ Out (Start 0 0 0 0 launch) ∷ In (Started 0) ∷ Out (WantChild 0) ∷ In (WsClosed 0) ∷ Out (EndInput 0) ∷ Out (Shut 0 Done) ∷ In (ChildBytes 0 (codes "abc")) ∷ Out (WantChild 0) ∷ In (Tick 0) ∷ In (Tick 0) ∷ Out (Kill 0) ∷ In (Exited 0) ∷ Out (Release 0) ∷ []) ≡ true
client_closed_its_websocket launch = refl

-- no more is owed to it
want_of_memory_at_a_feed : (launch : Launch) → is_good posting (In (ClientBytes 0 (codes "abc")) ∷ Out (Start 0 0 0 0 launch) ∷ In (Started 0) ∷ Out (EndInput 0) ∷ Out (Kill 0) ∷ Out (Shut 0 NoMemory) ∷ In (Exited 0) ∷ Out (Release 0) ∷ []) ≡ true
want_of_memory_at_a_feed launch = refl

-- it is settled at the end of each life
settled_after_its_exit : (launch : Launch) → settled (running launch ++ In (ChildEof 0) ∷ In (Exited 0) ∷ []) 0 ≡ true
settled_after_its_exit launch = refl
