-- For each rule on a child a trace that it refuses.
use Rattle.std.proofs.Common.{◌≡◌, true, false, [], ◌∷◌, ◌++◌, refl}
use Rattle.std.specs.Prelude.{codes}
use Rattle.host_base.specs.declared.launch.Launch.{Launch}
use Rattle.host_trace.specs.declared.items.Event.TheVariants.{ClientBytes, ClientGone, Started, StartFailed, ChildBytes, ChildEof, ChildBroken, Took, Exited, WsClosed, Tick, Stop}
use Rattle.host_trace.specs.declared.items.Act.TheVariants.{Start, Feed, EndInput, WantChild, Kill, Release}
use Rattle.host_trace.specs.declared.items.Item.TheVariants.{In, Out}
use Rattle.host_trace.specs.Account.{is_account}
use Rattle.trace_child.specs.Bodies.{bodies}
use Rattle.trace_child.specs.Feeds.{feeds}
use Rattle.trace_child.specs.HandlesDecided.{handles_decided}
use Rattle.trace_child.specs.Lingers.{lingers}
use Rattle.trace_child.specs.Stops.{stops_child}
use Rattle.trace_child.specs.ChildActs.{child_acts}
use Rattle.trace_child.specs.ChildForm.{may_be_given}
use Rattle.trace_child.proofs.Computed.{plain, posting, talking, running}

-- ---- the account

reaped_twice : (launch : Launch) → is_account (running launch ++ In (Exited 0) ∷ In (Exited 0) ∷ []) 0 ≡ false
reaped_twice launch = refl

started_twice : (launch : Launch) → is_account (running launch ++ Out (Start 0 0 1 0 launch) ∷ []) 0 ≡ false
started_twice launch = refl

answered_twice : (launch : Launch) → is_account (running launch ++ In (StartFailed 0) ∷ []) 0 ≡ false
answered_twice launch = refl

-- ---- bodies

fed_what_was_not_heard : (launch : Launch) → bodies posting (In (ClientBytes 0 (codes "ab")) ∷ Out (Start 0 0 0 0 launch) ∷ In (Started 0) ∷ Out (Feed 0 (codes "abc")) ∷ []) ≡ false
fed_what_was_not_heard launch = refl

fed_in_another_order : (launch : Launch) → bodies posting (In (ClientBytes 0 (codes "ab")) ∷ Out (Start 0 0 0 0 launch) ∷ In (Started 0) ∷ Out (Feed 0 (codes "b")) ∷ In (Took 0 1) ∷ Out (Feed 0 (codes "a")) ∷ []) ≡ false
fed_in_another_order launch = refl

fed_before_the_last_was_taken : (launch : Launch) → bodies posting (In (ClientBytes 0 (codes "ab")) ∷ Out (Start 0 0 0 0 launch) ∷ In (Started 0) ∷ Out (Feed 0 (codes "a")) ∷ Out (Feed 0 (codes "b")) ∷ []) ≡ false
fed_before_the_last_was_taken launch = refl

ended_before_the_whole_body : (launch : Launch) → bodies posting (In (ClientBytes 0 (codes "ab")) ∷ Out (Start 0 0 0 0 launch) ∷ In (Started 0) ∷ Out (Feed 0 (codes "ab")) ∷ Out (EndInput 0) ∷ []) ≡ false
ended_before_the_whole_body launch = refl

body_after_a_redirect : (launch : Launch) → bodies plain (In (ClientBytes 0 (codes "ab")) ∷ running launch ++ Out (Feed 0 (codes "ab")) ∷ []) ≡ false
body_after_a_redirect launch = refl

-- ---- acts of a step

not_killed : (launch : Launch) → child_acts plain true (running launch ++ In (ChildBroken 0) ∷ []) ([]) (running launch ++ In (ChildBroken 0) ∷ [] ++ ([])) ≡ false
not_killed launch = refl

killed_before_its_time : (launch : Launch) → child_acts plain true (running launch ++ In (ChildEof 0) ∷ In (Tick 0) ∷ []) ((Kill 0) ∷ []) (running launch ++ In (ChildEof 0) ∷ In (Tick 0) ∷ [] ++ (Out (Kill 0) ∷ [])) ≡ false
killed_before_its_time launch = refl

killed_for_nothing : (launch : Launch) → child_acts plain true (running launch ++ In (ChildBytes 0 (codes "hi")) ∷ []) ((Kill 0) ∷ (WantChild 0) ∷ []) (running launch ++ In (ChildBytes 0 (codes "hi")) ∷ [] ++ (Out (Kill 0) ∷ Out (WantChild 0) ∷ [])) ≡ false
killed_for_nothing launch = refl

input_left_open : (launch : Launch) → child_acts posting true (In (ClientBytes 0 (codes "ab")) ∷ Out (Start 0 0 0 0 launch) ∷ In (Started 0) ∷ Out (WantChild 0) ∷ In (ChildEof 0) ∷ []) ([]) (In (ClientBytes 0 (codes "ab")) ∷ Out (Start 0 0 0 0 launch) ∷ In (Started 0) ∷ Out (WantChild 0) ∷ In (ChildEof 0) ∷ [] ++ ([])) ≡ false
input_left_open launch = refl

output_not_given_up : (launch : Launch) → child_acts plain true (running launch ++ In (ChildBytes 0 (codes "abcd")) ∷ Out (Kill 0) ∷ In (Exited 0) ∷ []) ([]) (running launch ++ In (ChildBytes 0 (codes "abcd")) ∷ Out (Kill 0) ∷ In (Exited 0) ∷ [] ++ ([])) ≡ false
output_not_given_up launch = refl

output_given_up_too_soon : (launch : Launch) → child_acts plain true (running launch ++ In (Exited 0) ∷ []) ((Release 0) ∷ []) (running launch ++ In (Exited 0) ∷ [] ++ (Out (Release 0) ∷ [])) ≡ false
output_given_up_too_soon launch = refl

not_asked : (launch : Launch) → child_acts plain true (running launch ++ In (ChildBytes 0 (codes "hi")) ∷ []) ([]) (running launch ++ In (ChildBytes 0 (codes "hi")) ∷ [] ++ ([])) ≡ false
not_asked launch = refl

asked_after_the_end : (launch : Launch) → child_acts plain true (running launch ++ In (ChildEof 0) ∷ []) ((WantChild 0) ∷ []) (running launch ++ In (ChildEof 0) ∷ [] ++ (Out (WantChild 0) ∷ [])) ≡ false
asked_after_the_end launch = refl

asked_twice : (launch : Launch) → child_acts plain true (running launch ++ In (ChildBytes 0 (codes "hi")) ∷ []) ((WantChild 0) ∷ (WantChild 0) ∷ []) (running launch ++ In (ChildBytes 0 (codes "hi")) ∷ [] ++ (Out (WantChild 0) ∷ Out (WantChild 0) ∷ [])) ≡ false
asked_twice launch = refl

-- ---- what is owed at an end

not_fed : (launch : Launch) → feeds posting (In (ClientBytes 0 (codes "ab")) ∷ Out (Start 0 0 0 0 launch) ∷ In (Started 0) ∷ Out (WantChild 0) ∷ []) ≡ false
not_fed launch = refl

fed_whole_and_not_ended : (launch : Launch) → feeds posting (In (ClientBytes 0 (codes "abc")) ∷ Out (Start 0 0 0 0 launch) ∷ In (Started 0) ∷ Out (Feed 0 (codes "abc")) ∷ []) ≡ false
fed_whole_and_not_ended launch = refl

decided_and_not_killed : (launch : Launch) → handles_decided plain (running launch ++ In (ChildBroken 0) ∷ []) ≡ false
decided_and_not_killed launch = refl

decided_and_open : (launch : Launch) → handles_decided posting (In (ClientBytes 0 (codes "ab")) ∷ Out (Start 0 0 0 0 launch) ∷ In (Started 0) ∷ In (ChildEof 0) ∷ []) ≡ false
decided_and_open launch = refl

exited_with_output_left : (launch : Launch) → handles_decided plain (running launch ++ In (ClientGone 0) ∷ Out (Kill 0) ∷ In (Exited 0) ∷ []) ≡ false
exited_with_output_left launch = refl

lingers_too_long : (launch : Launch) → lingers plain true (running launch ++ In (ChildEof 0) ∷ In (Tick 0) ∷ In (Tick 0) ∷ []) ≡ false
lingers_too_long launch = refl

lingers_for_a_lost_client : (launch : Launch) → lingers plain true (running launch ++ In (ChildEof 0) ∷ In (ClientGone 0) ∷ []) ≡ false
lingers_for_a_lost_client launch = refl

left_alone : (launch : Launch) → lingers talking true (running launch ++ In (WsClosed 0) ∷ In (Tick 0) ∷ In (Tick 0) ∷ []) ≡ false
left_alone launch = refl

hung_up_and_open : (launch : Launch) → lingers talking true (In (Tick 0) ∷ Out (Start 0 0 0 0 launch) ∷ In (Started 0) ∷ Out (WantChild 0) ∷ In (WsClosed 0) ∷ []) ≡ false
hung_up_and_open launch = refl

nobody_asks : (launch : Launch) → lingers plain true (running launch ++ In (ChildBytes 0 (codes "hi")) ∷ []) ≡ false
nobody_asks launch = refl

runs_after_stop : (launch : Launch) → stops_child plain (running launch ++ In (ChildEof 0) ∷ In Stop ∷ []) ≡ false
runs_after_stop launch = refl

-- ---- form

killed_after_its_exit : (launch : Launch) → may_be_given (running launch ++ In (Exited 0) ∷ []) (Kill 0) ≡ false
killed_after_its_exit launch = refl

killed_twice : (launch : Launch) → may_be_given (running launch ++ In (ClientGone 0) ∷ Out (Kill 0) ∷ []) (Kill 0) ≡ false
killed_twice launch = refl

killed_before_it_started : (launch : Launch) → may_be_given (Out (Start 0 0 0 0 launch) ∷ []) (Kill 0) ≡ false
killed_before_it_started launch = refl

released_before_its_exit : (launch : Launch) → may_be_given (running launch) (Release 0) ≡ false
released_before_its_exit launch = refl

fed_after_the_end : (launch : Launch) → may_be_given (running launch) (Feed 0 (codes "a")) ≡ false
fed_after_the_end launch = refl

fed_nothing : (launch : Launch) → may_be_given (Out (Start 0 0 0 0 launch) ∷ In (Started 0) ∷ []) (Feed 0 []) ≡ false
fed_nothing launch = refl

asked_while_a_question_is_open : (launch : Launch) → may_be_given (running launch) (WantChild 0) ≡ false
asked_while_a_question_is_open launch = refl

one_number_twice : (launch : Launch) → may_be_given (running launch) (Start 0 0 1 0 launch) ≡ false
one_number_twice launch = refl
