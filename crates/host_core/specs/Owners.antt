-- Which connection has which child, and what is so of the fields whether the trace is told or not.
use Rattle.std.specs.Prelude.{ℕ, true, false, List, [], ◌∷◌, ◌++◌, ◌≡◌, ◌≤◌, ◌<◌, ◌+◌, length, slice_index_or, None}
use Rattle.host_base.specs.SiteRules.{IsServed}
use Rattle.host_base.specs.declared.site.Site.{Site}
use Rattle.host_trace.specs.declared.items.Event.{Event}
use Rattle.host_trace.specs.declared.items.Item.{Item}
use Rattle.host_trace.specs.declared.items.Item.TheVariants.{In}
use Rattle.own_traces.specs.Whose.{has}
use Rattle.reply_writer.specs.WholeRules.{IsStamp}
use Rattle.child_table.specs.Held.{cap_of}
use Rattle.many_conns.specs.Kept.{is_child}
use Rattle.many_conns.specs.Kind.{AreTicks}
use Rattle.many_conns.specs.declared.connection.Connection.{Ghosts}
use Rattle.many_conns.specs.Lists.{IsAtPlace, numbers}
use Rattle.many_conns.specs.Apart.{AreSound, owner_by}
use Rattle.live_conns.specs.Live.{conns_of, cap_of as live_cap}
use Rattle.host_core.specs.Names.{named_by}
use Rattle.host_core.specs.declared.named.Named.{Named}
use Rattle.host_core.specs.declared.named.Named.TheVariants.{Connection, Child, Nobody}
use Rattle.host_core.specs.declared.core_state.Core.{Core}

-- the connections that hold a slot, by rising number
abbrev pub conns : {C : Type 0} → {G : Ghosts C} → Core C G → List C
conns core = conns_of core.live

abbrev pub served : {C : Type 0} → {G : Ghosts C} → Core C G → Site
served core = core.site.now

abbrev pub most_of : {C : Type 0} → {G : Ghosts C} → Core C G → ℕ
most_of core = (served core).limits.connections

pub record Sound {C : Type 0} {G : Ghosts C} (core : Core C G) : Type 0 where
  pub lists : AreSound G.kind (served core) (conns core) core.accepted core.children core.table
  pub cap : cap_of core.table ≡ most_of core
  pub room : live_cap core.live ≡ most_of core
  pub few : length (conns core) ≤ most_of core
  pub site_good : IsServed (served core)
  pub clock_good : IsStamp core.clock

-- ---- what an event finds

-- no connection is to hear it: that which it names needs no slot, or the child which it names is that of no run
abbrev pub HasNoneBy : {C : Type 0} → {G : Ghosts C} → Core C G → Named → Type 0
HasNoneBy {C} {G} core (Connection c) = has (numbers G.kind (conns core)) c ≡ false
HasNoneBy {C} {G} core (Child k) = owner_by G.kind G.kind.last_child_of (conns core) k ≡ None
HasNoneBy {C} {G} core Nobody = Unit {0}

abbrev pub HasNone : {C : Type 0} → {G : Ghosts C} → Core C G → Event → Type 0
HasNone core event = HasNoneBy core (named_by (In event))

abbrev pub IsPlaceBy : {C : Type 0} → {G : Ghosts C} → Core C G → Named → ℕ → Type 0
IsPlaceBy {C} {G} core (Connection c) i = IsAtPlace G.kind (conns core) c i
IsPlaceBy {C} {G} core (Child k) i = (i < length (conns core)) × ((d : C) → is_child (G.kind.last_child_of (slice_index_or (conns core) i d)) k ≡ true)
IsPlaceBy {C} {G} core Nobody i = ⊥

abbrev pub IsPlace : {C : Type 0} → {G : Ghosts C} → Core C G → Event → ℕ → Type 0
IsPlace core event i = IsPlaceBy core (named_by (In event)) i

-- ---- what a part of a step leaves

-- all but the connections and the table is the same
pub record IsRest {C : Type 0} {G : Ghosts C} (old new : Core C G) : Type 0 where
  pub site : served new ≡ served old
  pub accepted : new.accepted ≡ old.accepted
  pub children : new.children ≡ old.children
  pub stopped : new.stopped ≡ old.stopped
  pub clock : new.clock ≡ old.clock

-- one connection more was accepted, and lies last, at this place
pub record AddsOne {C : Type 0} {G : Ghosts C} (old : Core C G) (last : ℕ) (new : Core C G) : Type 0 where
  pub conn : C
  pub is_last : last ≡ length (conns old)
  pub grown : conns new ≡ conns old ++ conn ∷ []
  pub number : G.kind.number_of conn ≡ old.accepted
  pub site_is : G.kind.site_of conn ≡ served old
  pub last_child : G.kind.last_child_of conn ≡ None
  pub unshut : G.kind.was_shut conn ≡ false
  pub stands : (L : List Item) → AreTicks L → G.kind.stands (served old) conn L
  pub site : served new ≡ served old
  pub accepted : new.accepted ≡ old.accepted + 1
  pub children : new.children ≡ old.children
  pub stopped : new.stopped ≡ old.stopped
  pub clock : new.clock ≡ old.clock

-- a step accepts one at most
pub record Counts {C : Type 0} {G : Ghosts C} (old new : Core C G) : Type 0 where
  pub accepted : new.accepted ≤ old.accepted + 1
