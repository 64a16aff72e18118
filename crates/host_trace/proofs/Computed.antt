-- What the definitions say of small traces, by computation.
use Rattle.std.proofs.Common.{◌≡◌, ℕ, true, false, List, [], ◌∷◌, ◌++◌, Some, None, refl, length}
use Rattle.std.specs.Prelude.{codes}
use Rattle.host_base.specs.declared.launch.Launch.{Launch}
use Rattle.host_base.specs.declared.launch.Peer.{Peer}
use Rattle.host_base.specs.declared.cause.Cause.TheVariants.{Full, RunTime, OutputTooLarge, StartFailed as StartFailedCause}
use Rattle.host_base.specs.declared.limits.Limits.{Limits}
use Rattle.host_base.specs.declared.site.ScriptKind.TheVariants.{Cgi, WebSocket}
use Rattle.host_base.specs.LimitRanges.{default_limits}
use Rattle.host_trace.specs.declared.items.Event.TheVariants.{Accepted, ClientBytes, ClientGone, Wrote, Started, StartFailed, StartFull, ChildBytes, ChildEof, Exited, WsText, Tick}
use Rattle.host_trace.specs.declared.items.Act.TheVariants.{WantClient, Write, Shut, Start, Feed, EndInput, WantChild, Kill, Release, Upgrade, Says}
use Rattle.host_trace.specs.declared.items.Item.{Item}
use Rattle.host_trace.specs.declared.items.Item.TheVariants.{In, Out}
use Rattle.host_trace.specs.declared.items.Why.TheVariants.{Done, Gone, NoMemory}
use Rattle.host_trace.specs.Trace.{steps}
use Rattle.host_trace.specs.Projections.{last_secs, client_in, client_out, child_out, child_in, said, heard, event_count, client_wanted, pending, own, children}
use Rattle.host_trace.specs.Fits.{fits}
use Rattle.host_trace.specs.Account.{settled, is_account, holds_slot, slots_held, all_settled}
use Rattle.host_trace.specs.Decider.{decider, outcome, derived, failed, unanswered}

-- ---- one GET that is answered by a document, as connection c and child k, after `before`

abbrev asked : ℕ → List Item
asked c = Out (WantClient c) ∷ In (ClientBytes c (codes "GE")) ∷ Out (WantClient c) ∷ In (ClientBytes c (codes "T")) ∷ []

abbrev run : Launch → ℕ → ℕ → List Item
run launch c k =
    Out (Start k c 0 0 launch) ∷ In (Started k) ∷ Out (EndInput k) ∷ Out (WantChild k) ∷ In (ChildBytes k (codes "hi"))
    ∷ Out (WantChild k) ∷ In (ChildEof k) ∷ Out (Write c (codes "200 hi")) ∷ Out (Shut c Done) ∷ []

abbrev one_get : Peer → Launch → List Item
one_get peer launch = In (Accepted peer) ∷ asked 0 ++ (run launch 0 0 ++ In (Exited 0) ∷ [])

bytes_are_joined : (peer : Peer) (launch : Launch) → client_in (one_get peer launch) 0 ≡ codes "GET"
bytes_are_joined peer launch = refl

output_is_heard : (peer : Peer) (launch : Launch) → child_out (one_get peer launch) 0 ≡ codes "hi"
output_is_heard peer launch = refl

reply_is_written : (peer : Peer) (launch : Launch) → client_out (one_get peer launch) 0 ≡ codes "200 hi"
reply_is_written peer launch = refl

nothing_is_fed : (peer : Peer) (launch : Launch) → child_in (one_get peer launch) 0 ≡ []
nothing_is_fed peer launch = refl

seven_steps : (peer : Peer) (launch : Launch) → length (steps (one_get peer launch)) ≡ 7
seven_steps peer launch = refl

seven_events : (peer : Peer) (launch : Launch) → event_count (one_get peer launch) ≡ 7
seven_events peer launch = refl

the_end_decides : (peer : Peer) (launch : Launch) → decider default_limits Cgi (one_get peer launch) 0 0 ≡ Some (In (ChildEof 0))
the_end_decides peer launch = refl

derived_from_output : (peer : Peer) (launch : Launch) → outcome default_limits Cgi (one_get peer launch) 0 0 ≡ Some derived
derived_from_output peer launch = refl

all_is_settled : (peer : Peer) (launch : Launch) → settled (one_get peer launch) 0 ≡ true
all_is_settled peer launch = refl

one_account : (peer : Peer) (launch : Launch) → is_account (one_get peer launch) 0 ≡ true
one_account peer launch = refl

no_slot_is_left : (peer : Peer) (launch : Launch) → slots_held (one_get peer launch) ≡ 0
no_slot_is_left peer launch = refl

-- before its exit the child is not settled, and the connection holds its slot though it is shut
abbrev before_exit : Peer → Launch → List Item
before_exit peer launch = In (Accepted peer) ∷ asked 0 ++ run launch 0 0

not_yet_settled : (peer : Peer) (launch : Launch) → settled (before_exit peer launch) 0 ≡ false
not_yet_settled peer launch = refl

slot_is_held : (peer : Peer) (launch : Launch) → holds_slot (before_exit peer launch) 0 ≡ true
slot_is_held peer launch = refl

-- ---- the same as connection 1 and child 1, after a child of connection 0 that goes on

abbrev former : Peer → Launch → List Item
former peer launch =
    In (Accepted peer) ∷ asked 0 ++ (Out (Start 0 0 0 0 launch) ∷ In (Started 0) ∷ Out (EndInput 0) ∷ Out (WantChild 0) ∷ [])

abbrev two : Peer → Launch → List Item
two peer launch = former peer launch ++ (In (Accepted peer) ∷ asked 1 ++ (run launch 1 1 ++ In (Exited 1) ∷ []))

output_of_one : (peer : Peer) (launch : Launch) → child_out (two peer launch) 1 ≡ codes "hi"
output_of_one peer launch = refl

output_of_none : (peer : Peer) (launch : Launch) → child_out (two peer launch) 0 ≡ []
output_of_none peer launch = refl

one_decides_one : (peer : Peer) (launch : Launch) → decider default_limits Cgi (two peer launch) 1 1 ≡ Some (In (ChildEof 1))
one_decides_one peer launch = refl

none_decides_none : (peer : Peer) (launch : Launch) → decider default_limits Cgi (two peer launch) 0 0 ≡ None
none_decides_none peer launch = refl

children_of_each : (peer : Peer) (launch : Launch) → children (two peer launch) 1 ≡ 1 ∷ []
children_of_each peer launch = refl

own_of_former : (peer : Peer) (launch : Launch) → own (two peer launch) 0 ≡ former peer launch
own_of_former peer launch = refl

own_of_latter : (peer : Peer) (launch : Launch) →
    own (two peer launch) 1 ≡ In (Accepted peer) ∷ asked 1 ++ (run launch 1 1 ++ In (Exited 1) ∷ [])
own_of_latter peer launch = refl

one_slot_is_held : (peer : Peer) (launch : Launch) → slots_held (two peer launch) ≡ 1
one_slot_is_held peer launch = refl

one_is_settled : (peer : Peer) (launch : Launch) → settled (two peer launch) 1 ≡ true
one_is_settled peer launch = refl

not_all_settled : (peer : Peer) (launch : Launch) → all_settled (two peer launch) ≡ false
not_all_settled peer launch = refl

-- ---- a child of which only the end of the output is missing

abbrev vanished : Peer → Launch → List Item
vanished peer launch =
    former peer launch ++ (In (ClientGone 0) ∷ Out (Kill 0) ∷ Out (Shut 0 Gone) ∷ In (Exited 0) ∷ [])

gone_decides : (peer : Peer) (launch : Launch) → outcome default_limits Cgi (vanished peer launch) 0 0 ≡ Some unanswered
gone_decides peer launch = refl

output_is_open : (peer : Peer) (launch : Launch) → settled (vanished peer launch) 0 ≡ false
output_is_open peer launch = refl

still_a_slot : (peer : Peer) (launch : Launch) → holds_slot (vanished peer launch) 0 ≡ true
still_a_slot peer launch = refl

released_is_settled : (peer : Peer) (launch : Launch) → settled (vanished peer launch ++ Out (Release 0) ∷ []) 0 ≡ true
released_is_settled peer launch = refl

released_is_free : (peer : Peer) (launch : Launch) → holds_slot (vanished peer launch ++ Out (Release 0) ∷ []) 0 ≡ false
released_is_free peer launch = refl

-- ---- starts that are refused

refused_is_settled : (launch : Launch) → settled (Out (Start 0 0 0 0 launch) ∷ In (StartFailed 0) ∷ []) 0 ≡ true
refused_is_settled launch = refl

refused_has_a_cause : (launch : Launch) →
    outcome default_limits Cgi (Out (Start 0 0 0 0 launch) ∷ In (StartFailed 0) ∷ []) 0 0 ≡ Some (failed StartFailedCause)
refused_has_a_cause launch = refl

full_has_a_number : (launch : Launch) →
    outcome default_limits Cgi (Out (Start 3 2 0 0 launch) ∷ In (StartFull 3 64) ∷ []) 2 3 ≡ Some (failed (Full 64))
full_has_a_number launch = refl

-- ---- limits of a run

abbrev short : Limits
short = record default_limits { run_ticks = 2; output = 3; ws_text = 2 }

second_tick_decides : (launch : Launch) →
    outcome short Cgi (Out (Start 0 0 0 0 launch) ∷ In (Tick 0) ∷ In (Started 0) ∷ In (Tick 0) ∷ In (ChildEof 0) ∷ []) 0 0 ≡ Some (failed RunTime)
second_tick_decides launch = refl

third_byte_is_taken : (launch : Launch) →
    outcome short Cgi (Out (Start 0 0 0 0 launch) ∷ In (Started 0) ∷ In (ChildBytes 0 (codes "abc")) ∷ []) 0 0 ≡ None
third_byte_is_taken launch = refl

fourth_byte_decides : (launch : Launch) →
    outcome short Cgi (Out (Start 0 0 0 0 launch) ∷ In (Started 0) ∷ In (ChildBytes 0 (codes "abc")) ∷ In (ChildBytes 0 (codes "d")) ∷ []) 0 0
    ≡ Some (failed OutputTooLarge)
fourth_byte_decides launch = refl

-- neither the output nor the time of a websocket script is limited, but a line is
long_line_decides : (launch : Launch) →
    decider short WebSocket (Out (Start 0 0 0 0 launch) ∷ In (Started 0) ∷ In (Tick 0) ∷ In (Tick 0) ∷ In (ChildBytes 0 (codes "ab\nab")) ∷ In (ChildBytes 0 (codes "c")) ∷ []) 0 0
    ≡ Some (In (ChildBytes 0 (codes "c")))
long_line_decides launch = refl

long_text_decides : (launch : Launch) →
    outcome short WebSocket (Out (Start 0 0 0 0 launch) ∷ In (Started 0) ∷ In (WsText 0 (codes "ab")) ∷ In (WsText 0 (codes "abc")) ∷ []) 0 0 ≡ Some unanswered
long_text_decides launch = refl

memory_decides : (launch : Launch) →
    decider default_limits Cgi (Out (Start 0 4 0 0 launch) ∷ Out (Shut 4 NoMemory) ∷ In (ChildEof 0) ∷ []) 4 0 ≡ Some (Out (Shut 4 NoMemory))
memory_decides launch = refl

-- ---- bytes on their way

pending_bytes : (peer : Peer) → pending (In (Accepted peer) ∷ Out (Write 0 (codes "abc")) ∷ In (Wrote 0 2) ∷ []) 0 ≡ 1
pending_bytes peer = refl

pending_texts : (peer : Peer) →
    pending (In (Accepted peer) ∷ Out (Write 0 (codes "abc")) ∷ Out (Upgrade 0 []) ∷ Out (Says 0 (codes "ab" ∷ codes "c" ∷ [])) ∷ In (Wrote 0 1) ∷ []) 0 ≡ 2
pending_texts peer = refl

texts_in_order : said (Out (Says 0 (codes "ab" ∷ [])) ∷ Out (Says 1 (codes "x" ∷ [])) ∷ Out (Says 0 (codes "c" ∷ [])) ∷ []) 0 ≡ codes "ab" ∷ codes "c" ∷ []
texts_in_order = refl

texts_heard_in_order : heard (In (WsText 0 (codes "ab")) ∷ In (WsText 0 []) ∷ []) 0 ≡ codes "ab" ∷ [] ∷ []
texts_heard_in_order = refl

fed_in_order : child_in (Out (Feed 0 (codes "ab")) ∷ Out (Feed 1 (codes "x")) ∷ Out (Feed 0 (codes "c")) ∷ []) 0 ≡ codes "abc"
fed_in_order = refl

-- ---- what fits

first_bytes_fit : (peer : Peer) → fits 64 (In (Accepted peer) ∷ Out (WantClient 0) ∷ []) (ClientBytes 0 (codes "G")) ≡ true
first_bytes_fit peer = refl

bytes_of_none_do_not : (peer : Peer) → fits 64 (In (Accepted peer) ∷ Out (WantClient 0) ∷ []) (ClientBytes 1 (codes "G")) ≡ false
bytes_of_none_do_not peer = refl

third_byte_left : (peer : Peer) → fits 64 (In (Accepted peer) ∷ Out (Write 0 (codes "abc")) ∷ In (Wrote 0 2) ∷ []) (Wrote 0 1) ≡ true
third_byte_left peer = refl

fourth_byte_did_not : (peer : Peer) → fits 64 (In (Accepted peer) ∷ Out (Write 0 (codes "abc")) ∷ In (Wrote 0 2) ∷ []) (Wrote 0 2) ≡ false
fourth_byte_did_not peer = refl

not_asked_again : (peer : Peer) → client_wanted (In (Accepted peer) ∷ Out (WantClient 0) ∷ In (ClientBytes 0 (codes "G")) ∷ []) 0 ≡ false
not_asked_again peer = refl

-- ---- the clock

-- the last second of the year 9999 fits, whatever was shown before, and the next doesn't
last_second_fits : fits 64 (In (Tick 5) ∷ []) (Tick 253402300799) ≡ true
last_second_fits = refl

year_10000_does_not : fits 64 [] (Tick 253402300800) ≡ false
year_10000_does_not = refl

clock_may_go_back : fits 64 (In (Tick 9) ∷ []) (Tick 3) ≡ true
clock_may_go_back = refl

clock_is_the_last : last_secs (In (Tick 9) ∷ Out (WantClient 0) ∷ In (Tick 3) ∷ In (Exited 0) ∷ []) ≡ Some 3
clock_is_the_last = refl

no_clock_yet : (peer : Peer) → last_secs (In (Accepted peer) ∷ []) ≡ None
no_clock_yet peer = refl
