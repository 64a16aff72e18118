-- What the core of all connections knows of one.
use Rattle.std.specs.Prelude.{ℕ, Bool, true, false, not, List, [], ◌∷◌, ◌++◌, ◌≡◌, ◌≤◌, ◌||◌, ◌⊎◌, Option, Some, None, filter, is_some}
use Rattle.std.specs.List.{list_any, AllByRecursion}
use Rattle.std.specs.Option.{option_to_list}
use Rattle.host_base.specs.declared.launch.Peer.{Peer}
use Rattle.host_base.specs.declared.site.Site.{Site}
use Rattle.host_trace.specs.declared.items.Event.{Event}
use Rattle.host_trace.specs.declared.items.Event.TheVariants.{Accepted, Tick}
use Rattle.host_trace.specs.declared.items.Act.{Act}
use Rattle.host_trace.specs.declared.items.Act.TheVariants.{Shut}
use Rattle.host_trace.specs.declared.items.Why.TheVariants.{Full}
use Rattle.host_trace.specs.declared.items.Item.{Item}
use Rattle.host_trace.specs.declared.items.Item.TheVariants.{In, Out}
use Rattle.host_trace.specs.Account.{settled}
use Rattle.host_trace.specs.Fits.{is_clock}
use Rattle.host_trace.specs.Kinds.{names, names_child}
use Rattle.host_trace.specs.Projections.{children, shut, last_secs}
use Rattle.host_trace.specs.Told.{Adds}
use Rattle.host_trace.specs.Trace.{Step, after_step, AtEachStep}
use Rattle.own_traces.specs.OwnFits.{fits_own, was_accepted}
use Rattle.own_traces.specs.Whose.{has, is_common, is_of, are_of, kids_after, next_after}
use Rattle.trace_child.specs.Words.{given}
use Rattle.trace_model.specs.Between.{turns_away}
use Rattle.many_conns.specs.Kept.{is_child}

-- A type of connections: of each its site, its number, the child of its run and the one that is not settled, whether it
-- was shut and needs its slot, and which events may come next; what is promised of a step of a connection; and for which
-- items of its own a connection stands.
pub record Kind (C : Type 0) : Type 1 where
  pub site_of : C → Site
  pub number_of : C → ℕ
  pub last_child_of : C → Option ℕ
  pub unsettled_child_of : C → Option ℕ
  pub was_shut : C → Bool
  pub needs : C → Bool
  pub fits_conn : C → Event → Bool
  pub is_good : Site → ℕ → Step → Type 0
  pub stands : Site → C → List Item → Type 0

-- ---- its list

-- a Tick that may come
abbrev pub is_clock_tick : Item → Bool
is_clock_tick (In (Tick secs)) = is_clock secs
is_clock_tick x = false

-- before its Accepted there are Ticks alone
abbrev pub AreTicks : List Item → Type 0
AreTicks L = AllByRecursion (λ x. is_clock_tick x ≡ true) L

-- a connection that gave its slot back, or never had one: some state that needs no slot stands for its list
pub record Gone {C : Type 0} (K : Kind C) (site : Site) (c : ℕ) (L : List Item) : Type 0 where
  pub conn : C
  pub number : K.number_of conn ≡ c
  pub stands : K.stands site conn L
  pub free : K.needs conn ≡ false

-- the event names the connection, or the child of its run
abbrev pub IsFor : {C : Type 0} → Kind C → C → Event → Type 0
IsFor K x event = (names (K.number_of x) (In event) ≡ true) ⊎ ((k : ℕ) × (names_child k (In event) ≡ true) × (is_child (K.last_child_of x) k ≡ true))

-- ---- a step

-- The event is of connection c, which stands for L and was accepted with the event at the latest, and may come next; n is
-- the number of the next child, and `stamp` what the clock showed at the last Tick, the event included.
pub record Fitting (limit c n : ℕ) (stamp : Option ℕ) (L : List Item) (event : Event) : Type 0 where
  pub mine : (is_common (In event) || is_of c (children L c) n (In event)) ≡ true
  pub fits : fits_own limit L event ≡ true
  pub told : was_accepted (L ++ In event ∷ []) ≡ true
  pub fresh : (k : ℕ) → n ≤ k → list_any (names_child k) L ≡ false
  pub clock : stamp ≡ last_secs (L ++ In event ∷ [])

-- the acts are of c alone, and it stands for its list with the step
pub record StepOwn {C : Type 0} (K : Kind C) (site : Site) (old : C) (n : ℕ) (event : Event) (acts : List Act) (new : C) (L : List Item) : Type 0 where
  pub alone : are_of (K.number_of old) (children L (K.number_of old)) n acts ≡ true
  pub stands : K.stands site new (after_step L event acts)

-- the child of its run, where it has one, is one of these
abbrev pub Within : Option ℕ → List ℕ → Type 0
Within None ks = Unit {0}
Within (Some k) ks = has ks k ≡ true

-- whose acts they are, where the child of its run was one of these, told or not
pub record AreIts {C : Type 0} (K : Kind C) (old : C) (n : ℕ) (ks : List ℕ) (acts : List Act) (new : C) : Type 0 where
  pub are : are_of (K.number_of old) ks n acts ≡ true
  pub child : Within (K.last_child_of new) (kids_after ks (K.number_of old) acts)

-- A step gave these acts and no others: for every list of its own for which the connection stood, it stands for the list
-- with the step.
pub record Gives {C : Type 0} (K : Kind C) (old : C) (n : ℕ) (event : Event) (stamp : Option ℕ) (new : C) (n' : ℕ) (before after : Option (List Item)) : Type 0 where
  pub acts : List Act
  pub added : Adds before acts after
  pub next : n' ≡ next_after n acts
  pub site : K.site_of new ≡ K.site_of old
  pub number : K.number_of new ≡ K.number_of old
  pub stays : (c : ℕ) → given (turns_away c) acts ≡ 0  -- it turns nobody away
  pub its : (ks : List ℕ) → Within (K.last_child_of old) ks → AreIts K old n ks acts new
  pub own : (L : List Item) → K.stands (K.site_of old) old L → Fitting (K.site_of old).limits.children (K.number_of old) n stamp L event
      → StepOwn K (K.site_of old) old n event acts new L

-- ---- what holds of every connection

pub record Laws {C : Type 0} (K : Kind C) : Type 0 where
  -- its unsettled child is that of its run
  pub unsettled_is_last : (x : C) (k : ℕ) → is_child (K.unsettled_child_of x) k ≡ true → is_child (K.last_child_of x) k ≡ true
  -- it needs its slot until it is shut and has no unsettled child
  pub needs_is : (x : C) → K.needs x ≡ (not (K.was_shut x) || is_some (K.unsettled_child_of x))
  -- it stands for lists of its own site's connections alone
  pub site_is : (site : Site) (x : C) (L : List Item) → K.stands site x L → K.site_of x ≡ site
  -- what is promised holds of each step of its list
  pub good : (site : Site) (x : C) (L : List Item) → K.stands site x L → AtEachStep (K.is_good site (K.number_of x)) L
  pub unsettled : (site : Site) (x : C) (L : List Item) → K.stands site x L → filter (λ k. not (settled L k)) (children L (K.number_of x)) ≡ option_to_list (K.unsettled_child_of x)
  -- the child of its run was started for it
  pub last_child_started : (site : Site) (x : C) (L : List Item) (k : ℕ) → K.stands site x L → is_child (K.last_child_of x) k ≡ true → has (children L (K.number_of x)) k ≡ true
  pub shut_is : (site : Site) (x : C) (L : List Item) → K.stands site x L → K.was_shut x ≡ shut L (K.number_of x)
  pub fits_is : (site : Site) (x : C) (L : List Item) (event : Event) → K.stands site x L → IsFor K x event → K.fits_conn x event ≡ fits_own site.limits.children L event
  -- an event of an earlier child, which is settled, changes nothing
  pub late : (site : Site) (x : C) (L : List Item) (limit n : ℕ) (stamp : Option ℕ) (k : ℕ) (event : Event) → K.stands site x L → Fitting limit (K.number_of x) n stamp L event
      → names_child k (In event) ≡ true → is_child (K.last_child_of x) k ≡ false → K.stands site x (L ++ In event ∷ [])
  -- a connection without a slot goes on as it is
  pub idle : (site : Site) (c : ℕ) (L : List Item) (limit n : ℕ) (stamp : Option ℕ) (event : Event) → Gone K site c L → Fitting limit c n stamp L event → Gone K site c (L ++ In event ∷ [])
  -- one may be turned away, where another stands for some list
  pub full : (site : Site) (x : C) (M : List Item) (c : ℕ) (L : List Item) (peer : Peer) → K.stands site x M → AreTicks L → Gone K site c (L ++ In (Accepted peer) ∷ Out (Shut c Full) ∷ [])
