-- What a list of connections stands for.
use Rattle.std.specs.Prelude.{ℕ, Bool, true, false, List, [], ◌∷◌, ◌++◌, ◌≡◌, ◌≤◌, ◌<◌, map, length, slice_index_or}
use Rattle.std.specs.List.{All, AllPairs}
use Rattle.host_base.specs.declared.site.Site.{Site}
use Rattle.host_trace.specs.declared.items.Event.{Event}
use Rattle.host_trace.specs.declared.items.Item.{Item}
use Rattle.host_trace.specs.declared.items.Item.TheVariants.{In}
use Rattle.host_trace.specs.Projections.{own, accepted_count, stopped}
use Rattle.own_traces.specs.Whose.{has}
use Rattle.own_traces.specs.Between.{Between}
use Rattle.own_traces.specs.OwnFits.{fits_own}
use Rattle.many_conns.specs.Kind.{AreTicks, Gone, Kind}

abbrev pub numbers : {C : Type 0} → Kind C → List C → List ℕ
numbers K conns = map (λ x. K.number_of x) conns

-- by rising number
abbrev pub AreRising : {C : Type 0} → Kind C → List C → Type 0
AreRising {C} K conns = AllPairs (λ (x y : C). K.number_of x < K.number_of y) conns

-- the connection of number c lies at place i
pub record IsAtPlace {C : Type 0} (K : Kind C) (conns : List C) (c i : ℕ) : Type 0 where
  pub within : i < length conns
  pub is : (d : C) → K.number_of (slice_index_or conns i d) ≡ c

-- each connection that K.needs a slot stands for its own list; of each other one that was accepted some state that needs no
-- slot does; before its Accepted a list has Ticks alone
pub record Lists {C : Type 0} (K : Kind C) (site : Site) (conns : List C) (T : List Item) : Type 0 where
  pub live : All (λ (x : C). K.stands site x (own T (K.number_of x))) conns
  pub gone : (c : ℕ) → c < accepted_count T → has (numbers K conns) c ≡ false → Gone K site c (own T c)
  pub fresh : (c : ℕ) → accepted_count T ≤ c → stopped T ≡ false → AreTicks (own T c)
  pub known : All (λ (x : C). K.number_of x < accepted_count T) conns
  pub between : Between T

-- ---- in the middle of a step

-- the connection has not heard the event at the end of its list yet
pub record Waits {C : Type 0} (K : Kind C) (site : Site) (limit : ℕ) (event : Event) (conn : C) (L : List Item) : Type 0 where
  pub was : List Item
  pub grew : L ≡ was ++ In event ∷ []
  pub stands : K.stands site conn was
  pub fits : fits_own limit was event ≡ true

abbrev pub AtMid : {C : Type 0} → Kind C → Bool → Site → ℕ → Event → C → List Item → Type 0
AtMid K true site limit event conn L = Waits K site limit event conn L
AtMid K false site limit event conn L = K.stands site conn L

-- those at the places where `waits` is true have not heard it yet
pub record Mid {C : Type 0} (K : Kind C) (waits : ℕ → Bool) (site : Site) (limit : ℕ) (event : Event) (conns : List C) (V : List Item) : Type 0 where
  pub each : (j : ℕ) (d : C) → j < length conns → AtMid K (waits j) site limit event (slice_index_or conns j d) (own V (K.number_of (slice_index_or conns j d)))
  pub gone : (c : ℕ) → c < accepted_count V → has (numbers K conns) c ≡ false → Gone K site c (own V c)
  pub fresh : (c : ℕ) → accepted_count V ≤ c → stopped V ≡ false → AreTicks (own V c)
  pub known : All (λ (x : C). K.number_of x < accepted_count V) conns
  pub between : Between V
