-- What the core stands for, and what a step of it keeps.
use Rattle.std.specs.Prelude.{◌||◌, ℕ, Bool, true, false, List, [], ◌∷◌, ◌++◌, ◌≡◌, ◌<◌, length, slice_index_or, slice_set, Option, Some, None}
use Rattle.std.specs.List.{All, remove}
use Rattle.host_base.specs.declared.site.Site.{Site}
use Rattle.host_trace.specs.declared.items.Event.{Event}
use Rattle.host_trace.specs.declared.items.Event.TheVariants.{Tick, Stop}
use Rattle.host_trace.specs.declared.items.Item.{Item}
use Rattle.host_trace.specs.declared.items.Item.TheVariants.{In}
use Rattle.host_trace.specs.Kinds.{is_stop}
use Rattle.host_trace.specs.Projections.{start_count, accepted_count, stopped, own, last_secs}
use Rattle.host_trace.specs.Fits.{fits}
use Rattle.host_trace.specs.Trace.{AtEachStep}
use Rattle.many_conns.specs.Kind.{Gives, Kind}
use Rattle.many_conns.specs.declared.connection.Connection.{Ghosts}
use Rattle.many_conns.specs.Lists.{Lists}
use Rattle.trace_model.specs.Good.{begins_with_event}
use Rattle.trace_model.specs.Between.{BetweenGood}
use Rattle.trace_laws.specs.Promised.{HasFitting}
use Rattle.host_core.specs.Owners.{IsRest, conns, served}
use Rattle.host_core.specs.declared.core_state.Core.{Core}

-- ---- the promise: each connection's part, read off its own list, the part between connections, and that each event fits

pub record Good {C : Type 0} (K : Kind C) (site : Site) (T : List Item) : Type 0 where
  pub begun : begins_with_event T ≡ true
  pub parts : (c : ℕ) → c < accepted_count T → AtEachStep (K.is_good site c) (own T c)
  pub between : AtEachStep (BetweenGood site) T
  pub fit : AtEachStep (HasFitting site) T

-- ---- what the core stands for

pub record Stands {C : Type 0} {G : Ghosts C} (core : Core C G) (T : List Item) : Type 0 where
  pub begun : begins_with_event T ≡ true
  pub lists : Lists G.kind (served core) (conns core) T
  pub between : AtEachStep (BetweenGood (served core)) T
  pub fit : AtEachStep (HasFitting (served core)) T
  pub accepted : core.accepted ≡ accepted_count T
  pub children : core.children ≡ start_count T
  pub stopped : core.stopped ≡ stopped T
  pub clock : core.clock ≡ last_secs T
  pub held : All (λ x. G.kind.needs x ≡ true) (conns core)

abbrev pub Steps : {C : Type 0} → {G : Ghosts C} → Core C G → Event → Option (List Item) → Core C G → Option (List Item) → Type 0
Steps old event before new after =
    (T U : List Item) → Stands old T → before ≡ Some (T ++ In event ∷ []) → fits (served old).limits.children T event ≡ true → after ≡ Some U → Stands new U

-- an event that may not come next changes nothing, and has no act
abbrev pub Ignores : {C : Type 0} → {G : Ghosts C} → Core C G → Event → Option (List Item) → Core C G → Option (List Item) → Type 0
Ignores old event before new after =
    (T : List Item) → Stands old T → fits (served old).limits.children T event ≡ false → (new ≡ old) × (after ≡ before)

-- ---- the connection at place i makes its step

pub record Serves {C : Type 0} {G : Ghosts C} (old : Core C G) (i : ℕ) (event : Event) (held : Bool) (new : Core C G) (before after : Option (List Item)) : Type 0 where
  pub was : C
  pub now : C
  pub within : i < length (conns old)
  pub at : was ≡ slice_index_or (conns old) i was
  pub conns_then : conns new ≡ slice_set (conns old) i now
  pub gives : Gives G.kind was old.children event old.clock now new.children before after
  pub held_is : held ≡ G.kind.needs now
  pub site : served new ≡ served old
  pub accepted : new.accepted ≡ old.accepted
  pub stopped : new.stopped ≡ old.stopped
  pub clock : new.clock ≡ old.clock

-- .. and gives its slot back, or doesn't
abbrev pub freed_conns : {C : Type 0} → Bool → List C → ℕ → List C
freed_conns true xs i = xs
freed_conns false xs i = remove xs i

pub record FreedAt {C : Type 0} {G : Ghosts C} (old : Core C G) (i : ℕ) (held : Bool) (new : Core C G) : Type 0 where
  pub conns_then : conns new ≡ freed_conns held (conns old) i
  pub rest : IsRest old new

-- ---- a step of all connections

abbrev pub common_event : Option ℕ → Event
common_event None = Stop
common_event (Some secs) = Tick secs

-- it is noted, before a connection has heard it
pub record Noted {C : Type 0} {G : Ghosts C} (start noted : Core C G) (event : Event) : Type 0 where
  pub kept : conns noted ≡ conns start
  pub site : served noted ≡ served start
  pub accepted : noted.accepted ≡ start.accepted
  pub children : noted.children ≡ start.children
  pub stopped : noted.stopped ≡ (start.stopped || is_stop (In event))
  pub clock : (T : List Item) → start.clock ≡ last_secs T → noted.clock ≡ last_secs (T ++ In event ∷ [])
