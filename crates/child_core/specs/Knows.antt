-- What a run knows of a list of items in which its child's Start stands.
use Rattle.std.specs.Prelude.{ℕ, Bool, true, false, not, ◌||◌, ◌&&◌, ◌+◌, ◌-◌, ◌≤◌, List, [], ◌∷◌, ◌++◌, ◌≡◌, length, count_by, is_some, if◌then◌else◌}
use Rattle.std.specs.Option.{option_map}
use Rattle.std.specs.List.{list_any}
use Rattle.host_trace.specs.declared.items.Item.{Item}
use Rattle.host_trace.specs.First.{since}
use Rattle.host_trace.specs.Fits.{is_piece}
use Rattle.host_trace.specs.Kinds.{is_start, is_start_answer, is_exited, is_want_child, is_child_answer, is_child_eof, is_ws_closed, is_feed, is_end_input, count_took, input_fed}
use Rattle.host_trace.specs.Projections.{started, exited, input_ended, output_ended, killed, child_out, child_in, took_sum, tick_count, stopped, shut}
use Rattle.host_trace.specs.Account.{start_refused}
use Rattle.host_trace.specs.Decider.{Outcome as Read, derived, unanswered, failed, is_websocket, is_long_text, makes_long_line}
use Rattle.trace_child.specs.Words.{implies, each}
use Rattle.trace_child.specs.Decided.{is_decided, is_by_output, outcome_of}
use Rattle.trace_child.specs.ChildDemands.{is_hung_up, ends_waiting, is_fed_whole as is_body_fed}
use Rattle.trace_child.specs.Bodies.{is_fed_in_turn, owes_whole}
use Rattle.child_core.specs.declared.ending.Outcome.{Outcome}
use Rattle.child_core.specs.declared.ending.Outcome.TheVariants.{Output, Failed, Gone, Stopped, Dropped}
use Rattle.child_core.specs.View.{View, Note, is_output, is_other, without}
use Rattle.child_core.specs.Due.{wants_input_end}
use Rattle.child_core.specs.Setting.{Setting, run_in}

-- ---- words

abbrev pub one_if : Bool → ℕ
one_if b = if b then 1 else 0

-- an outcome as the rules on traces read it
abbrev pub read : Outcome → Read
read Output = derived
read (Failed cause) = failed cause
read Gone = unanswered
read Stopped = unanswered
read Dropped = unanswered

-- the items in whose Ticks it lingers
abbrev pub waited : Setting → View → List Item → List Item
waited s v L =
    if is_output v.outcome then since (is_child_eof v.number) L
    else (if v.hung_up then since (is_ws_closed s.conn) L else [])

-- its child is killed as soon as may be, whatever comes
abbrev pub is_given_up : View → Bool
is_given_up v = is_other v.outcome || is_output v.outcome && v.abandoned

-- a list begins with another
pub record IsFront (front whole : List ℕ) : Type 0 where
  pub rest : List ℕ
  pub is : front ++ rest ≡ whole

-- ---- a run and a list

-- `early`: memory ran out and the run was ended for it, while the Shut that says so is still to come
pub record KnowsRun (early : Bool) (s : Setting) (v : View) (L : List Item) : Type 0 where
  pub book : v.book ≡ s.limits.children
  pub lingers : v.linger_ticks ≡ s.limits.linger_ticks
  pub starts : count_by (is_start v.number) L ≡ 1
  pub begun : list_any (is_start v.number) L ≡ true
  pub answers : count_by (is_start_answer v.number) L ≡ one_if (v.started || v.refused)
  pub exits : count_by (is_exited v.number) L ≡ one_if v.exited
  pub started : v.started ≡ started L v.number
  pub refused : v.refused ≡ start_refused L v.number
  pub exited : v.exited ≡ exited L v.number
  pub input_ended : v.input_ended ≡ input_ended L v.number
  pub output_ended : v.output_ended ≡ output_ended L v.number
  pub killed : v.killed ≡ killed L v.number
  pub asked : count_by (is_want_child v.number) L ≡ count_by (is_child_answer v.number) L + one_if v.asked
  pub decided : is_decided (run_in s v) L ≡ is_some v.outcome
  pub by_output : is_by_output (run_in s v) L ≡ is_output v.outcome
  pub outcome : outcome_of (run_in s v) L ≡ option_map read v.outcome
  pub eof : is_output v.outcome ≡ true → list_any (is_child_eof v.number) L ≡ true
  pub hung_up : v.hung_up ≡ is_hung_up (run_in s v) L
  pub linger_left : v.linger_left ≡ s.limits.linger_ticks - tick_count (waited s v L)
  pub abandoned : is_output v.outcome ≡ true → v.abandoned ≡ list_any (ends_waiting s.conn) (since (is_child_eof v.number) L)
  pub run_left : v.run_left ≡ s.limits.run_ticks - tick_count (since (is_start v.number) L)
  pub output_left : v.output_left ≡ s.limits.output - length (child_out (since (is_start v.number) L) v.number)
  pub within : is_some v.outcome ≡ false → is_websocket v.kind ≡ false → length (child_out (since (is_start v.number) L) v.number) ≤ s.limits.output
  pub body : is_some v.outcome ≡ false → (s.offered L).body ≡ child_in L v.number ++ v.unfed
  pub front : IsFront (child_in L v.number) (s.offered L).body
  pub whole : is_some v.outcome ≡ false → is_websocket v.kind ≡ false → v.whole ≡ (s.offered L).whole
  pub talk : is_websocket v.kind ≡ true → (s.offered L).whole ≡ true
  pub took : took_sum L v.number + v.untaken ≡ length (child_in L v.number)
  pub in_turn : is_websocket v.kind ≡ false → each (is_fed_in_turn v.number) L ≡ true
  pub owes : early ≡ false → is_websocket v.kind ≡ false → implies (owes_whole (run_in s v) L) (is_body_fed (run_in s v) L) ≡ true
  pub stops : stopped L ≡ true → is_given_up v ≡ true

-- what there is for the input after x, and whether x makes a text or a line too long, are as this note says
pub record Offers (s : Setting) (v : View) (L : List Item) (n : Note) (x : Item) : Type 0 where
  pub refused : is_websocket v.kind ≡ true → n.refused ≡ (not (shut (since (is_start v.number) L) s.conn) && (is_long_text s.limits s.conn x || makes_long_line s.limits v.number (since (is_start v.number) L) x))
  pub body : (s.offered (L ++ x ∷ [])).body ≡ (s.offered L).body ++ n.more
  pub whole : is_websocket v.kind ≡ false → (s.offered (L ++ x ∷ [])).whole ≡ (n.last || (s.offered L).whole)
  pub done : is_websocket v.kind ≡ false → (s.offered L).whole ≡ true → n.more ≡ []
  pub talk : is_websocket v.kind ≡ true → (s.offered (L ++ x ∷ [])).whole ≡ true

-- what may come next, with this note
pub record Admits (early : Bool) (s : Setting) (v : View) (L : List Item) (n : Note) (x : Item) : Type 0 where
  pub start : is_start v.number x ≡ false
  pub begins : is_start_answer v.number x ≡ true → (v.started || v.refused) ≡ false
  pub exits : is_exited v.number x ≡ true → v.exited ≡ false
  pub asks : is_want_child v.number x ≡ true → v.asked ≡ false
  pub answers : is_child_answer v.number x ≡ true → v.asked ≡ true
  pub eof : is_child_eof v.number x ≡ true → v.output_ended ≡ false
  pub takes : count_took v.number x ≤ v.untaken
  pub feeds : is_feed v.number x ≡ true → (is_some v.outcome || v.input_ended) ≡ false
  pub front : input_fed v.number x ++ without (input_fed v.number x) v.unfed ≡ v.unfed
  pub in_turn : is_websocket v.kind ≡ false → is_feed v.number x ≡ true → (v.untaken ≡ 0) × (is_piece (input_fed v.number x) ≡ true)
  pub deserved : early ≡ false → is_end_input v.number x ≡ true → wants_input_end v ≡ true
  pub refused : is_websocket v.kind ≡ true → n.refused ≡ (not (shut (since (is_start v.number) L) s.conn) && (is_long_text s.limits s.conn x || makes_long_line s.limits v.number (since (is_start v.number) L) x))
  pub body : (s.offered (L ++ x ∷ [])).body ≡ (s.offered L).body ++ n.more
  pub whole : is_websocket v.kind ≡ false → (s.offered (L ++ x ∷ [])).whole ≡ (n.last || (s.offered L).whole)
  pub done : is_websocket v.kind ≡ false → (s.offered L).whole ≡ true → n.more ≡ []
  pub talk : is_websocket v.kind ≡ true → (s.offered (L ++ x ∷ [])).whole ≡ true
