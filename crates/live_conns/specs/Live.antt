-- The connections that hold a slot, and what the calls make of them.
use Rattle.std.specs.Prelude.{ℕ, ◌≡◌, List, slice_index_or, slice_set, Option}
use Rattle.host_trace.specs.declared.items.Event.{Event}
use Rattle.host_trace.specs.declared.items.Item.{Item}
use Rattle.many_conns.specs.Kind.{Gives, Kind}
use Rattle.many_conns.specs.declared.connection.Connection.{Ghosts}
use Rattle.live_conns.specs.declared.live.Live.{Live}
use Rattle.live_conns.specs.Places.{in_order, keys_in}

-- by rising number
abbrev pub conns_of : {C : Type 0} {G : Ghosts C} → Live C G → List C
conns_of live = in_order live.rows (keys_in live.places.items)

abbrev pub cap_of : {C : Type 0} {G : Ghosts C} → Live C G → ℕ
cap_of live = live.cap

-- the connection at place i makes its step
pub record StepsAt {C : Type 0} (K : Kind C) (i : ℕ) (event : Event) (stamp : Option ℕ) (old : List C) (n : ℕ) (before : Option (List Item)) (new : List C) (m : ℕ) (after : Option (List Item)) : Type 0 where
  pub was : C
  pub now : C
  pub at : was ≡ slice_index_or old i was
  pub conns : new ≡ slice_set old i now
  pub gives : Gives K was n event stamp now m before after
