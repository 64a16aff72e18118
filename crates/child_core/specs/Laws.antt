-- What ties a run to a list of items.
use Rattle.std.specs.Prelude.{ℕ, Bool, true, false, List, [], ◌∷◌, ◌++◌, ◌≡◌, map}
use Rattle.std.specs.List.{list_any}
use Rattle.host_base.specs.declared.launch.Launch.{Launch}
use Rattle.host_base.specs.declared.site.ScriptKind.{ScriptKind}
use Rattle.host_trace.specs.declared.items.Event.{Event}
use Rattle.host_trace.specs.declared.items.Event.TheVariants.{ClientBytes, ClientEof, ClientGone, WsText, WsBinary, WsClosed, WsBad, NoRoom}
use Rattle.host_trace.specs.declared.items.Why.TheVariants.{NoMemory}
use Rattle.host_trace.specs.declared.items.Act.{Act}
use Rattle.host_trace.specs.declared.items.Act.TheVariants.{Start, Shut}
use Rattle.host_trace.specs.declared.items.Item.{Item}
use Rattle.host_trace.specs.declared.items.Item.TheVariants.{In, Out}
use Rattle.host_trace.specs.Fits.{fits}
use Rattle.host_trace.specs.Kinds.{names_child, is_ws_closed}
use Rattle.host_trace.specs.Projections.{stopped}
use Rattle.host_trace.specs.Decider.{is_websocket}
use Rattle.trace_child.specs.ChildGood.{ChildGood}
use Rattle.child_core.specs.View.{View, Note, plain, noted, begun}
use Rattle.child_core.specs.declared.ending.Ending.TheVariants.{Gone, Dropped, Refused, Incomplete}
use Rattle.child_core.specs.Calls.{fits_run, is_heard, hearing, heard, ended, closed, offered}
use Rattle.child_core.specs.Due.{acting, acted, is_at_rest}
use Rattle.child_core.specs.Setting.{Setting, run_in}
use Rattle.child_core.specs.Knows.{KnowsRun, Admits, Offers}
use Rattle.child_core.specs.Walk.{Walk, walked, Deserved}

-- the run of a child whose Start is given, to which these bytes were offered
abbrev pub just_begun : Setting → ℕ → ScriptKind → List ℕ → Bool → View
just_begun s k kind body whole = record (begun k kind s.limits) { unfed = body; whole = whole }

-- The child is new to the list; its connection's WebSocket was not closed, and the server was not to end.
abbrev pub StartsAreKnown : Type 0
StartsAreKnown = (s : Setting) (k : ℕ) (kind : ScriptKind) (body : List ℕ) (whole : Bool) (d j hop : ℕ) (launch : Launch) (L : List Item)
    → list_any (names_child k) L ≡ false → (is_websocket kind ≡ true → list_any (is_ws_closed s.conn) L ≡ false) → stopped L ≡ false
    → (s.offered (L ++ Out (Start k d j hop launch) ∷ [])).body ≡ body
    → (is_websocket kind ≡ false → whole ≡ (s.offered (L ++ Out (Start k d j hop launch) ∷ [])).whole)
    → (is_websocket kind ≡ true → (s.offered (L ++ Out (Start k d j hop launch) ∷ [])).whole ≡ true)
    → KnowsRun false s (just_begun s k kind body whole) (L ++ Out (Start k d j hop launch) ∷ [])

abbrev pub FitsIsExact : Type 0
FitsIsExact = (early : Bool) (s : Setting) (v : View) (L : List Item) → KnowsRun early s v L → (ev : Event) → names_child v.number (In ev) ≡ true
    → fits_run v ev ≡ fits s.limits.children L ev

abbrev pub EventsMayCome : Type 0
EventsMayCome = (early : Bool) (s : Setting) (v : View) (L : List Item) (n : Note) → KnowsRun early s v L → (ev : Event) → fits s.limits.children L ev ≡ true
    → Offers s v L n (In ev) → Admits early s v L n (In ev)

abbrev pub ItemsAreKnown : Type 0
ItemsAreKnown = (early : Bool) (s : Setting) (v : View) (L : List Item) (n : Note) (x : Item) → KnowsRun early s v L → Admits early s v L n x
    → KnowsRun early s (noted s.conn v n x) (L ++ x ∷ [])

abbrev pub WalksAreKnown : Type 0
WalksAreKnown = (early : Bool) (s : Setting) (v : View) (L : List Item) (acts : List Act) → KnowsRun early s v L → Walk early s v L acts
    → KnowsRun early s (walked s v acts) (L ++ map Out acts)

abbrev pub ActsAreWalked : Type 0
ActsAreWalked = (s : Setting) (may : Bool) (v : View) → walked s v (acting may v) ≡ acted may v

abbrev pub ActsRest : Type 0
ActsRest = (may : Bool) (v : View) → is_at_rest may (acted may v) ≡ true

abbrev pub ActsAreDeserved : Type 0
ActsAreDeserved = (may : Bool) (v : View) → Deserved may v (acted may v)

-- `H` are the items with the step's event. `early`: the connection found no memory, and its Shut stands in the step.
abbrev pub EndsAreGood : Type 0
EndsAreGood = (early may : Bool) (s : Setting) (w : View) (H : List Item) (acts : List Act) → KnowsRun early s w H → Walk early s w H acts
    → KnowsRun false s (walked s w acts) (H ++ map Out acts) → is_at_rest may (walked s w acts) ≡ true → Deserved may w (walked s w acts)
    → ChildGood (run_in s (walked s w acts)) may H acts (H ++ map Out acts)

-- acts bring nothing for the child's input
abbrev pub IsStill : Setting → Type 0
IsStill s = (L : List Item) (act : Act) → s.offered (L ++ Out act ∷ []) ≡ s.offered L

abbrev pub ActsMayCome : Type 0
ActsMayCome = (early : Bool) (s : Setting) → IsStill s → (may : Bool) (v : View) (L : List Item) → KnowsRun early s v L → Walk early s v L (acting may v)

abbrev pub ActsAreGood : Type 0
ActsAreGood = (s : Setting) → IsStill s → (may : Bool) (v : View) (H : List Item) → KnowsRun false s v H
    → ChildGood (run_in s (acted may v)) may H (acting may v) (H ++ map Out (acting may v))

-- ---- what the calls make of a run is what an item of the list makes of it, for a run of connection c

abbrev pub HearsAreItems : Type 0
HearsAreItems = (c : ℕ) (v : View) (ev : Event) (found : Bool) → is_heard ev ≡ true → heard v ev found ≡ noted c v (hearing found) (In ev)

pub record EndsAreItems (c : ℕ) (v : View) : Type 0 where
  pub gone : noted c v plain (In (ClientGone c)) ≡ ended v Gone
  pub bad : noted c v plain (In (WsBad c)) ≡ ended v Gone
  pub binary : noted c v plain (In (WsBinary c)) ≡ ended v Refused
  pub no_room : noted c v plain (In (NoRoom c)) ≡ ended v Dropped
  pub memory : noted c v plain (Out (Shut c NoMemory)) ≡ ended v Dropped
  pub cut : is_websocket v.kind ≡ false → v.whole ≡ false → noted c v plain (In (ClientEof c)) ≡ ended v Incomplete
  pub text : (bytes : List ℕ) → is_websocket v.kind ≡ true → noted c v (record plain { refused = true }) (In (WsText c bytes)) ≡ ended v Refused

abbrev pub ClosesAreItems : Type 0
ClosesAreItems = (c : ℕ) (v : View) → is_websocket v.kind ≡ true → noted c v plain (In (WsClosed c)) ≡ closed v

abbrev pub OffersAreItems : Type 0
OffersAreItems = (c : ℕ) (v : View) (bytes more : List ℕ) (last : Bool) → noted c v (record plain { more = more; last = last }) (In (ClientBytes c bytes)) ≡ offered v more last
