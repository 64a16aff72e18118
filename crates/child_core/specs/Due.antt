-- Which acts are due for a run.
use Rattle.std.specs.Prelude.{ℕ, Bool, true, false, not, ◌||◌, ◌&&◌, ◌==◌, List, [], ◌∷◌, ◌++◌, ◌≡◌, length, min, take, is_some, if◌then◌else◌}
use Rattle.host_trace.specs.declared.items.Act.{Act}
use Rattle.host_trace.specs.declared.items.Act.TheVariants.{Feed, EndInput, Kill, Release, WantChild}
use Rattle.host_trace.specs.declared.items.Item.TheVariants.{Out}
use Rattle.host_trace.specs.Told.{when}
use Rattle.host_trace.specs.Decider.{is_websocket}
use Rattle.trace_child.specs.Words.{is_filled}
use Rattle.child_core.specs.View.{View, plain, noted, is_output, is_other, without, more_by}

-- ---- what is wanted of a run, done or not

-- the whole body was fed
abbrev pub is_fed_whole : View → Bool
is_fed_whole v = not (is_websocket v.kind) && v.whole && not (is_filled v.unfed)

abbrev pub is_left_alone : View → Bool
is_left_alone v = v.hung_up && not (is_some v.outcome) && v.linger_left == 0

abbrev pub has_lingered : View → Bool
has_lingered v = is_output v.outcome && (v.linger_left == 0 || v.abandoned)

abbrev pub wants_input_end : View → Bool
wants_input_end v = v.started && (is_some v.outcome || v.hung_up || not v.exited && is_fed_whole v)

abbrev pub wants_kill : View → Bool
wants_kill v = v.started && not v.exited && (is_other v.outcome || is_left_alone v || has_lingered v)

abbrev pub wants_release : View → Bool
wants_release v = v.started && v.exited && (is_other v.outcome || is_left_alone v || v.killed)

-- `may`: not too much waits to be sent
abbrev pub wants_output : Bool → View → Bool
wants_output may v = v.started && not (is_some v.outcome) && not v.killed && not v.output_ended && may

-- ---- what is due: wanted, and not done

abbrev pub is_feed_due : View → Bool
is_feed_due v = v.started && not (is_some v.outcome) && not v.exited && not v.input_ended && is_filled v.unfed && v.untaken == 0

abbrev pub is_input_due : View → Bool
is_input_due v = wants_input_end v && not v.input_ended

abbrev pub is_kill_due : View → Bool
is_kill_due v = wants_kill v && not v.killed

abbrev pub is_release_due : View → Bool
is_release_due v = wants_release v && not v.output_ended

abbrev pub is_ask_due : Bool → View → Bool
is_ask_due may v = wants_output may v && not v.asked

abbrev pub is_at_rest : Bool → View → Bool
is_at_rest may v = not (is_feed_due v || is_input_due v || is_kill_due v || is_release_due v || is_ask_due may v)

-- ---- the next piece: a talk's text at once, a body's bytes 65,536 at most

abbrev pub piece_len : View → ℕ
piece_len v = if is_websocket v.kind then length v.unfed else min 65536 (length v.unfed)

abbrev pub piece_of : View → List ℕ
piece_of v = take (piece_len v) v.unfed

-- ---- each act where it is due, and what it makes of the run

abbrev pub fed : View → List ℕ
fed v = if is_feed_due v then piece_of v else []

abbrev pub feed_given : View → View
feed_given v = record v { unfed = without (fed v) v.unfed; untaken = more_by (fed v) v.untaken }

-- the Feed, where it is due; where there was no room for it nothing is given
abbrev pub feeding : View → List Act
feeding v = when (is_feed_due v) (Feed v.number (piece_of v))

abbrev pub feed_given_by : Bool → View → View
feed_given_by true v = feed_given v
feed_given_by false v = v

abbrev pub feeding_by : Bool → View → List Act
feeding_by true v = feeding v
feeding_by false v = []

abbrev pub input_given : View → View
input_given v = record v { input_ended = is_input_due v || v.input_ended }

abbrev pub kill_given : View → View
kill_given v = record v { killed = is_kill_due v || v.killed }

abbrev pub release_given : View → View
release_given v = record v { output_ended = is_release_due v || v.output_ended }

abbrev pub ask_given : Bool → View → View
ask_given may v = record v { asked = is_ask_due may v || v.asked }

unfoldable pub acted : Bool → View → View
acted may v = ask_given may (release_given (kill_given (input_given (feed_given v))))

unfoldable pub acting : Bool → View → List Act
acting may v =
    feeding v
    ++ when (is_input_due (feed_given v)) (EndInput v.number)
    ++ when (is_kill_due (input_given (feed_given v))) (Kill v.number)
    ++ when (is_release_due (kill_given (input_given (feed_given v)))) (Release v.number)
    ++ when (is_ask_due may (release_given (kill_given (input_given (feed_given v))))) (WantChild v.number)

-- where a Feed found no room nothing is given, and all is as before
abbrev pub acted_by : Bool → Bool → View → View
acted_by true may v = acted may v
acted_by false may v = v

abbrev pub acting_by : Bool → Bool → View → List Act
acting_by true may v = acting may v
acting_by false may v = []

-- ---- the same, act after act

-- the act is due
abbrev pub Due : Bool → View → Act → Type 0
Due may v (Feed k bytes) = (k ≡ v.number) × (bytes ≡ piece_of v) × (is_feed_due v ≡ true)
Due may v (EndInput k) = (k ≡ v.number) × (is_input_due v ≡ true)
Due may v (Kill k) = (k ≡ v.number) × (is_kill_due v ≡ true)
Due may v (Release k) = (k ≡ v.number) × (is_release_due v ≡ true)
Due may v (WantChild k) = (k ≡ v.number) × (is_ask_due may v ≡ true)
Due may v _ = ⊥

-- an act of the run joins the list; no test of such an act looks at the connection
abbrev pub given : View → Act → View
given v act = noted 0 v plain (Out act)

-- each act is due when it is given
abbrev pub Path : Bool → View → List Act → Type 0
Path may v [] = Unit {0}
Path may v (act ∷ acts) = Due may v act × Path may (given v act) acts

abbrev pub after : View → List Act → View
after v [] = v
after v (act ∷ acts) = after (given v act) acts
