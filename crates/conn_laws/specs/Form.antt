-- What the flags of a connection say in the words of the rules.
use Rattle.std.specs.Prelude.{ℕ, Bool, true, false, not, ◌&&◌, ◌||◌, ◌≡◌, List, [], ◌∷◌, ◌++◌}
use Rattle.std.specs.List.{list_any}
use Rattle.host_trace.specs.declared.items.Act.{Act}
use Rattle.host_trace.specs.declared.items.Act.TheVariants.{WantClient, Write, Shut, Start, Feed, EndInput, WantChild, Kill, Release, Upgrade, Says, CloseWs}
use Rattle.host_trace.specs.declared.items.Item.{Item}
use Rattle.host_trace.specs.declared.items.Item.TheVariants.{Out}
use Rattle.host_trace.specs.Kinds.{names, is_no_room}
use Rattle.host_trace.specs.Projections.{stopped, shut, client_wanted}
use Rattle.trace_model.specs.Demands.{is_live, has_room, client_ended}
use Rattle.trace_model.specs.Form.{may_come}
use Rattle.trace_model.specs.Shuts.{is_gone}
use Rattle.conn_flags.specs.View.{View, is_live as lives, has_room as finds_room}
use Rattle.conn_flags.specs.Knows.{KnowsFlags}
use Rattle.conn_flags.specs.Form.{may_give, are_given}
use Rattle.own_traces.specs.Whose.{are_of}

pub record SaysDemands (m : View) (L : List Item) : Type 0 where
  pub live : lives m ≡ is_live m.c L
  pub room : finds_room m ≡ has_room m.c L
  pub ended : m.ended ≡ client_ended m.c L
  pub gone : m.gone ≡ is_gone m.c L
  pub stopped_then : m.stopped ≡ stopped L
  pub shut_then : m.shut ≡ shut L m.c
  pub no_room_then : m.no_room ≡ list_any (is_no_room m.c) L
  pub asked : m.asked ≡ client_wanted L m.c

abbrev pub FlagsSayDemands : Type 0
FlagsSayDemands = (m : View) (L : List Item) → KnowsFlags m L → SaysDemands m L

-- the act is given to the connection alone
abbrev pub is_to_connection : Act → Bool
is_to_connection (WantClient c) = true
is_to_connection (Write c bytes) = true
is_to_connection (Shut c why) = true
is_to_connection (Start k c j hop launch) = false
is_to_connection (Feed k bytes) = false
is_to_connection (EndInput k) = false
is_to_connection (WantChild k) = false
is_to_connection (Kill k) = false
is_to_connection (Release k) = false
is_to_connection (Upgrade c rest) = true
is_to_connection (Says c texts) = true
is_to_connection (CloseWs c code) = true

-- Such an act comes in form exactly where the flags allow it.
abbrev pub FormIsByFlags : Type 0
FormIsByFlags = (m : View) (L : List Item) (act : Act) → KnowsFlags m L → names m.c (Out act) ≡ true → is_to_connection act ≡ true
    → may_come L act ≡ may_give m act

-- each of these acts on a connection comes in form
abbrev pub all_come : List Item → List Act → Bool
all_come L [] = true
all_come L (act ∷ acts) = (not (is_to_connection act) || may_come L act) && all_come (L ++ Out act ∷ []) acts

-- Acts of one connection, each of which its flags allow when it is given.
abbrev pub ActsComeInForm : Type 0
ActsComeInForm = (m : View) (L : List Item) (ks : List ℕ) (n : ℕ) (acts : List Act) → KnowsFlags m L → are_of m.c ks n acts ≡ true → are_given m acts ≡ true
    → all_come L acts ≡ true

-- no child is started and no client asked while too much waits to be sent, or once the server is to end; and no child is
-- started for a connection that is not open
abbrev pub comes_in_time : ℕ → List Item → Act → Bool
comes_in_time c L (WantClient d) = has_room c L && not (stopped L)
comes_in_time c L (Start k d j hop launch) = is_live c L && has_room c L && not (stopped L)
comes_in_time c L _ = true

abbrev pub all_in_time : ℕ → List Item → List Act → Bool
all_in_time c L [] = true
all_in_time c L (act ∷ acts) = comes_in_time c L act && all_in_time c (L ++ Out act ∷ []) acts

abbrev pub ActsComeInTime : Type 0
ActsComeInTime = (m : View) (L : List Item) (acts : List Act) → KnowsFlags m L → are_given m acts ≡ true → all_in_time m.c L acts ≡ true
