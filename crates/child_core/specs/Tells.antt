-- What a run tells is what its list says, and what the list says where items stand before it.
use Rattle.std.specs.Prelude.{ℕ, Bool, true, false, ◌&&◌, ◌||◌, List, [], ◌∷◌, ◌++◌, ◌≡◌, length, drop}
use Rattle.std.specs.List.{list_any}
use Rattle.host_trace.specs.declared.items.Act.{Act}
use Rattle.host_trace.specs.declared.items.Event.{Event}
use Rattle.host_trace.specs.declared.items.Item.{Item}
use Rattle.host_trace.specs.declared.items.Item.TheVariants.{In, Out}
use Rattle.host_trace.specs.Fits.{fits}
use Rattle.host_trace.specs.Kinds.{names_child, is_tick, is_client_eof, is_ws_closed}
use Rattle.host_trace.specs.Projections.{stopped}
use Rattle.host_trace.specs.Account.{settled}
use Rattle.host_trace.specs.Decider.{is_websocket, ends_connection}
use Rattle.trace_child.specs.ChildDemands.{is_all_taken, takes_text}
use Rattle.child_core.specs.View.{View, Note, plain, noted}
use Rattle.child_core.specs.Calls.{fits_run, is_settled, wants_more}
use Rattle.child_core.specs.Setting.{Setting, run_in}
use Rattle.child_core.specs.Knows.{KnowsRun, Admits, Offers}
use Rattle.child_core.specs.Laws.{IsStill}

-- ---- what it tells

abbrev pub SettledIsExact : Type 0
SettledIsExact = (early : Bool) (s : Setting) (v : View) (L : List Item) → KnowsRun early s v L → is_settled v ≡ settled L v.number

-- A request's body is fed on where all that was fed was taken; a text is heard for a WebSocket's program that was started.
pub record WantsAreExact (s : Setting) (v : View) (L : List Item) : Type 0 where
  pub body : is_websocket v.kind ≡ false → wants_more v ≡ is_all_taken L v.number
  pub text : is_websocket v.kind ≡ true → (v.started && wants_more v) ≡ takes_text (run_in s v) L

abbrev pub WantsMoreIsExact : Type 0
WantsMoreIsExact = (early : Bool) (s : Setting) (v : View) (L : List Item) → KnowsRun early s v L → WantsAreExact s v L

-- ---- items that don't name the child

-- the item names the child, is a Tick, or may end what its connection gives to it or takes of it
abbrev pub concerns : ℕ → ℕ → Item → Bool
concerns c k x = names_child k x || is_tick x || is_client_eof c x || is_ws_closed c x || ends_connection c x

abbrev pub OthersChangeNothing : Type 0
OthersChangeNothing = (c : ℕ) (v : View) (x : Item) → concerns c v.number x ≡ false → noted c v plain x ≡ v

abbrev pub OthersMayCome : Type 0
OthersMayCome = (early : Bool) (s : Setting) (v : View) (L : List Item) (n : Note) (x : Item) → names_child v.number x ≡ false → Offers s v L n x
    → Admits early s v L n x

abbrev pub OthersAreKnown : Type 0
OthersAreKnown = (early : Bool) (s : Setting) (v : View) (L : List Item) (x : Item) → KnowsRun early s v L → concerns s.conn v.number x ≡ false
    → Offers s v L plain x → KnowsRun early s v (L ++ x ∷ [])

-- Where acts bring nothing for the child's input, nothing is offered with one.
abbrev pub ActsOfferNothing : Type 0
ActsOfferNothing = (early : Bool) (s : Setting) (v : View) (L : List Item) (act : Act) → IsStill s → KnowsRun early s v L → Offers s v L plain (Out act)

-- An event that fits the run may come next.
abbrev pub FitsMayCome : Type 0
FitsMayCome = (early : Bool) (s : Setting) (v : View) (L : List Item) (n : Note) (ev : Event) → KnowsRun early s v L → fits_run v ev ≡ true
    → Offers s v L n (In ev) → Admits early s v L n (In ev)

-- ---- items before, none of which names the child

abbrev pub FitsBehind : Type 0
FitsBehind = (early : Bool) (s : Setting) (v : View) (before L : List Item) → list_any (names_child v.number) before ≡ false → KnowsRun early s v L
    → (ev : Event) → names_child v.number (In ev) ≡ true → fits_run v ev ≡ fits s.limits.children (before ++ L) ev

-- the same setting, where these items stand before
abbrev pub behind : List Item → Setting → Setting
behind before s = record s { offered = λ L. s.offered (drop (length before) L) }

-- No WebSocket of its connection was closed before, and the server was not to end.
abbrev pub KnowsBehind : Type 0
KnowsBehind = (early : Bool) (s : Setting) (v : View) (before L : List Item) → list_any (names_child v.number) before ≡ false
    → (is_websocket v.kind ≡ true → list_any (is_ws_closed s.conn) before ≡ false) → stopped before ≡ false → KnowsRun early s v L
    → KnowsRun early (behind before s) v (before ++ L)
