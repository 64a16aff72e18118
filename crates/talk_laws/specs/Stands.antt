-- What is known of a connection that speaks WebSocket between two steps, and that its steps keep it.
use Rattle.std.specs.Prelude.{ℕ, ◌≡◌, ◌≤◌, Bool, true, false, List, [], None}
use Rattle.std.specs.List.{list_any}
use Rattle.host_trace.specs.declared.items.Act.{Act}
use Rattle.host_trace.specs.declared.items.Event.{Event}
use Rattle.host_trace.specs.declared.items.Item.{Item}
use Rattle.host_trace.specs.Kinds.{is_accepted, names_child}
use Rattle.host_trace.specs.Projections.{shut_for_memory}
use Rattle.host_trace.specs.Trace.{after_step, step_of}
use Rattle.own_traces.specs.OwnFits.{fits_own}
use Rattle.child_core.specs.Due.{is_at_rest}
use Rattle.conn_flags.specs.Knows.{KnowsFlags}
use Rattle.conn_flags.specs.View.{has_room}
use Rattle.trace_model.specs.Exchanges.{current}
use Rattle.trace_model.specs.Good.{StepGood}
use Rattle.trace_model.specs.Legs.{Leg}
use Rattle.talk_laws.specs.TalkIs.{TalkIs, TalkLostIs, TalkRests}
use Rattle.talk_conn.specs.declared.conn.TalkConn.{TalkConn}
use Rattle.talk_conn.specs.Step.{Steps}
use Rattle.talk_conn.specs.View.{flags_of, number_of, run_of, site_of, talk_of, was_lost}

-- memory was found so far: its talk goes on, or is over and the connection shut
pub record Talks (conn : TalkConn) (L : List Item) : Type 0 where
  pub legs : List Leg
  pub continued : Bool
  pub talk : TalkIs (site_of conn) (number_of conn) (current (site_of conn) (number_of conn) L) legs continued (talk_of conn) (run_of conn)
  pub rests : TalkRests (number_of conn) (current (site_of conn) (number_of conn) L) (talk_of conn) (run_of conn)
  pub room : (flags_of conn).no_room ≡ false

-- memory ran out: the talk was given up, and the connection shut for that
pub record TalksNoMore (conn : TalkConn) (L : List Item) : Type 0 where
  pub legs : List Leg
  pub continued : Bool
  pub talk : TalkLostIs (site_of conn) (number_of conn) (current (site_of conn) (number_of conn) L) legs continued false (run_of conn)
  pub number : (talk_of conn).conn ≡ number_of conn
  pub over : (talk_of conn).over ≡ true
  pub texts : (talk_of conn).texts ≡ []
  pub code : (talk_of conn).code ≡ None
  pub shut : (flags_of conn).shut ≡ true
  pub for_memory : shut_for_memory L (number_of conn) ≡ true

-- These are its items, and no item names a child from this number on.
pub record TalkStands (conn : TalkConn) (L : List Item) (next : ℕ) : Type 0 where
  pub two : 2 ≤ (site_of conn).limits.head
  pub flags : KnowsFlags (flags_of conn) L
  pub accepted : list_any is_accepted L ≡ true
  pub fresh : (k : ℕ) → next ≤ k → list_any (names_child k) L ≡ false
  pub even : is_at_rest (has_room (flags_of conn)) (run_of conn) ≡ true  -- nothing is due for its child
  pub found : was_lost conn ≡ false → Talks conn L
  pub lost : was_lost conn ≡ true → TalksNoMore conn L

-- All rules of the model on the connection hold of the step, and the next one may follow.
pub record IsGoodStep (old new : TalkConn) (L : List Item) (ev : Event) (acts : List Act) (next : ℕ) : Type 0 where
  pub good : StepGood (site_of old) (number_of old) (step_of L ev acts)
  pub site : site_of new ≡ site_of old
  pub number : number_of new ≡ number_of old
  pub stands : TalkStands new (after_step L ev acts) next

abbrev pub StepsAreGood : Type 0
StepsAreGood = (old new : TalkConn) (L : List Item) (ev : Event) (acts : List Act) (next : ℕ) → TalkStands old L next
    → fits_own (site_of old).limits.children L ev ≡ true → Steps old ev acts new → IsGoodStep old new L ev acts next
