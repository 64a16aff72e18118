-- What ties the flags of a connection to a list of items.
use Rattle.std.specs.Prelude.{ℕ, Bool, true, false, not, ◌||◌, ◌&&◌, List, [], ◌∷◌, ◌++◌, ◌≡◌, map}
use Rattle.std.specs.List.{list_any}
use Rattle.host_trace.specs.declared.items.Act.{Act}
use Rattle.host_trace.specs.declared.items.Event.{Event}
use Rattle.host_trace.specs.declared.items.Item.{Item}
use Rattle.host_trace.specs.declared.items.Item.TheVariants.{In, Out}
use Rattle.own_traces.specs.OwnFits.{fits_own}
use Rattle.host_trace.specs.Kinds.{is_accepted, is_stop, names}
use Rattle.host_trace.specs.Projections.{shut, upgraded, client_wanted, is_pending_high}
use Rattle.conn_flags.specs.View.{View, fresh, noted, is_live, may_write, has_room}
use Rattle.conn_flags.specs.Knows.{KnowsFlags, Admits}
use Rattle.conn_flags.specs.Form.{given_all, are_given}
use Rattle.conn_flags.specs.Fits.{fits_flags}

abbrev pub StartsAreKnown : Type 0
StartsAreKnown = (c : ℕ) → KnowsFlags (fresh c) []

abbrev pub EventsMayCome : Type 0
EventsMayCome = (limit : ℕ) (m : View) (L : List Item) (ev : Event) → KnowsFlags m L → fits_own limit L ev ≡ true → Admits m (In ev)

abbrev pub ItemsAreKnown : Type 0
ItemsAreKnown = (m : View) (L : List Item) (x : Item) → KnowsFlags m L → Admits m x → KnowsFlags (noted m x) (L ++ x ∷ [])

-- Acts each of which is allowed when it is given.
abbrev pub ActsAreKnown : Type 0
ActsAreKnown = (m : View) (L : List Item) (acts : List Act) → KnowsFlags m L → are_given m acts ≡ true → KnowsFlags (given_all m acts) (L ++ map Out acts)

-- It is live, its client was asked, and there is room, exactly where the list says so.
pub record AreExact (m : View) (L : List Item) : Type 0 where
  pub live : is_live m ≡ (list_any is_accepted L && not (shut L m.c))
  pub write : may_write m ≡ (list_any is_accepted L && not (shut L m.c) && not (upgraded L m.c))
  pub asked : m.asked ≡ client_wanted L m.c
  pub room : has_room m ≡ not (is_pending_high L m.c)

abbrev pub FlagsAreExact : Type 0
FlagsAreExact = (m : View) (L : List Item) → KnowsFlags m L → AreExact m L

-- the item names the connection, or is Accepted or Stop
abbrev pub concerns : ℕ → Item → Bool
concerns c x = is_accepted x || is_stop x || names c x

abbrev pub IdleItemsChangeNothing : Type 0
IdleItemsChangeNothing = (m : View) (x : Item) → concerns m.c x ≡ false → noted m x ≡ m

-- Of an event that concerns the connection they say whether it fits its list.
abbrev pub FitsAreExact : Type 0
FitsAreExact = (limit : ℕ) (m : View) (L : List Item) (ev : Event) → KnowsFlags m L → concerns m.c (In ev) ≡ true → fits_flags m ev ≡ fits_own limit L ev
