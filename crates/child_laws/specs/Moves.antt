-- What is known of the children within a step goes on from act to act, and is enough for its end. The end of an exchange
-- is noticed apart from the item that ends it.
use Rattle.std.specs.Prelude.{ℕ, Bool, true, false, ◌+◌, ◌≡◌, ◌≤◌, List, [], ◌∷◌, ◌++◌, map, Option, Some, None, is_some}
use Rattle.host_base.specs.declared.launch.Launch.{Launch}
use Rattle.host_base.specs.declared.request.Request.{Request}
use Rattle.host_base.specs.declared.site.ScriptKind.{ScriptKind}
use Rattle.host_base.specs.declared.site.Site.{Site}
use Rattle.host_trace.specs.declared.items.Act.{Act}
use Rattle.host_trace.specs.declared.items.Act.TheVariants.{Shut, Start}
use Rattle.host_trace.specs.declared.items.Event.{Event}
use Rattle.host_trace.specs.declared.items.Item.{Item}
use Rattle.host_trace.specs.declared.items.Item.TheVariants.{In, Out}
use Rattle.host_trace.specs.declared.items.Why.TheVariants.{NoMemory}
use Rattle.host_trace.specs.Trace.{after_step, step_of}
use Rattle.own_traces.specs.OwnFits.{fits_own}
use Rattle.child_core.specs.Calls.{drained, is_settled}
use Rattle.child_core.specs.Due.{acted, acting, is_at_rest}
use Rattle.child_core.specs.Laws.{just_begun}
use Rattle.child_core.specs.View.{View}
use Rattle.trace_model.specs.Children.{ChildrenGood}
use Rattle.trace_model.specs.Demands.{has_room}
use Rattle.trace_model.specs.Exchange.{Exchange, pushed}
use Rattle.trace_model.specs.Exchanges.{current, current_after, ended_after, ended_by, following, has_ended, next_by}
use Rattle.trace_model.specs.Legs.{Leg, leg_of}
use Rattle.conn_laws.specs.Form.{is_to_connection}
use Rattle.conn_laws.specs.Quiet.{is_plain}
use Rattle.child_laws.specs.Setting.{setting}
use Rattle.child_laws.specs.Children.{KnowsChildren, dropped, is_over}
use Rattle.child_laws.specs.Heard.{run_heard}
use Rattle.child_laws.specs.Laws.{MayStart, with_acts}
use Rattle.child_laws.specs.Step.{Turn, waiting, begun, served, DealsWith}

-- The exchange e goes on after these acts of a step, or has just ended, and `over` ended before it in the step.
pub record Deals (site : Site) (c : ℕ) (L : List Item) (event : Event) (acts : List Act) (e : Exchange) (over : List Exchange) (early : Bool) (turn : Turn) (next : ℕ) (ls : List Leg) (run : Option View) : Type 0 where
  pub knows : DealsWith site c (L ++ In event ∷ []) acts e over early turn next ls run
  pub goes_on : current_after site c (current site c L) (In event ∷ map Out acts) ≡ next_by site c e (has_ended site c e)
  pub gone : ended_after site c (current site c L) (In event ∷ map Out acts) ≡ over ++ ended_by e (has_ended site c e)

-- ---- a step begins

abbrev pub EventsBegin : Type 0
EventsBegin = (site : Site) (c : ℕ) (L : List Item) (event : Event) (found : Bool) (next : ℕ) (ls : List Leg) (run : Option View) → 2 ≤ site.limits.head
    → fits_own site.limits.children L event ≡ true → KnowsChildren site c (current site c L) false next ls run
    → Deals site c L event [] (pushed (current site c L) (In event)) [] false waiting next ls (run_heard site c (current site c L) ls found event run)

-- ---- moves, while the exchange has not ended

abbrev pub ActsMove : Type 0
ActsMove = (site : Site) (c : ℕ) (L : List Item) (event : Event) (acts : List Act) (e : Exchange) (over : List Exchange) (act : Act) (early : Bool) (turn : Turn) (next : ℕ) (ls : List Leg) (run : Option View)
    → 2 ≤ site.limits.head → is_to_connection act ≡ true → is_plain act ≡ true → has_ended site c e ≡ false → Deals site c L event acts e over early turn next ls run
    → Deals site c L event (acts ++ act ∷ []) (pushed e (Out act)) over early turn next ls run

abbrev pub ServesMove : Type 0
ServesMove = (site : Site) (c : ℕ) (L : List Item) (event : Event) (acts : List Act) (e : Exchange) (over : List Exchange) (early may : Bool) (next : ℕ) (ls : List Leg) (held : View)
    → 2 ≤ site.limits.head → has_ended site c e ≡ false → Deals site c L event acts e over early waiting next ls (Some held)
    → Deals site c L event (acts ++ acting may held) (with_acts e (acting may held)) over early (served may) next ls (Some (acted may held))

abbrev pub StartsMove : Type 0
StartsMove = (site : Site) (c : ℕ) (L : List Item) (event : Event) (acts : List Act) (e : Exchange) (over : List Exchange) (turn : Turn) (next : ℕ) (ls : List Leg) (run : Option View)
    (hop : ℕ) (kind : ScriptKind) (request : Request) (launch : Launch) (body : List ℕ) (whole : Bool) → 2 ≤ site.limits.head → has_ended site c e ≡ false
    → MayStart site c e ls run hop kind request body whole → Deals site c L event acts e over false turn next ls run
    → Deals site c L event (acts ++ Start next c e.number hop launch ∷ []) (pushed e (Out (Start next c e.number hop launch))) over false begun (next + 1) (ls ++ leg_of hop kind request next ∷ [])
    (Some (just_begun (setting site c e hop) next kind body whole))

abbrev pub ShutsMove : Type 0
ShutsMove = (site : Site) (c : ℕ) (L : List Item) (event : Event) (acts : List Act) (e : Exchange) (over : List Exchange) (turn : Turn) (next : ℕ) (ls : List Leg) (run : Option View)
    → 2 ≤ site.limits.head → has_ended site c e ≡ false → Deals site c L event acts e over true turn next ls run
    → Deals site c L event (acts ++ Shut c NoMemory ∷ []) (pushed e (Out (Shut c NoMemory))) over false turn next ls run

-- ---- moves without an act

-- memory may run out before what is due for the last child is given, or once it is settled
abbrev pub may_lose : Turn → Option View → Bool
may_lose waiting run = true
may_lose begun run = true
may_lose (served may) run = is_over run

abbrev pub LossesMove : Type 0
LossesMove = (site : Site) (c : ℕ) (L : List Item) (event : Event) (acts : List Act) (e : Exchange) (over : List Exchange) (early : Bool) (turn : Turn) (next : ℕ) (ls : List Leg) (run : Option View)
    → may_lose turn run ≡ true → Deals site c L event acts e over early turn next ls run → Deals site c L event acts e over true turn next ls (dropped run)

abbrev pub DrainsMove : Type 0
DrainsMove = (site : Site) (c : ℕ) (L : List Item) (event : Event) (acts : List Act) (e : Exchange) (over : List Exchange) (early : Bool) (turn : Turn) (next : ℕ) (ls : List Leg) (v : View)
    → Deals site c L event acts e over early turn next ls (Some v) → Deals site c L event acts e over early turn next ls (Some (drained v))

-- An exchange that has ended is followed by the next.
abbrev pub EndsMove : Type 0
EndsMove = (site : Site) (c : ℕ) (L : List Item) (event : Event) (acts : List Act) (e : Exchange) (over : List Exchange) (early later : Bool) (turn other : Turn) (next : ℕ) (ls : List Leg) (run : Option View)
    → has_ended site c e ≡ true → Deals site c L event acts e over early turn next ls run → Deals site c L event acts (following site c e) (over ++ e ∷ []) later other next [] None

-- Where there is no child its turn doesn't matter, nor that memory ran out.
abbrev pub NoChildMoves : Type 0
NoChildMoves = (site : Site) (c : ℕ) (L : List Item) (event : Event) (acts : List Act) (e : Exchange) (over : List Exchange) (early later : Bool) (turn other : Turn) (next : ℕ) (ls : List Leg)
    → Deals site c L event acts e over early turn next ls None → Deals site c L event acts e over later other next ls None

-- ---- what it tells

-- the exchange is the connection's, and its children are known
pub record IsNow (site : Site) (c : ℕ) (L : List Item) (event : Event) (acts : List Act) (e : Exchange) (early : Bool) (next : ℕ) (ls : List Leg) (run : Option View) : Type 0 where
  pub knows : KnowsChildren site c e early next ls run
  pub is : has_ended site c e ≡ false → current site c (after_step L event acts) ≡ e

abbrev pub MovesTell : Type 0
MovesTell = (site : Site) (c : ℕ) (L : List Item) (event : Event) (acts : List Act) (e : Exchange) (over : List Exchange) (early : Bool) (turn : Turn) (next : ℕ) (ls : List Leg) (run : Option View)
    → Deals site c L event acts e over early turn next ls run → IsNow site c L event acts e early next ls run

-- nothing is left to be given to the last child: while it runs undecided, there is room as there was when it was served
abbrev pub EndsAt : Bool → Turn → Option View → Type 0
EndsAt room turn None = Unit {0}
EndsAt room waiting (Some v) = is_at_rest room v ≡ true
EndsAt room begun (Some v) = Unit {0}
EndsAt room (served may) (Some v) = is_some v.outcome ≡ false → is_settled v ≡ false → may ≡ room

-- Then, at the end of a step, all rules on its children hold.
abbrev pub MovesEndWell : Type 0
MovesEndWell = (site : Site) (c : ℕ) (L : List Item) (event : Event) (acts : List Act) (e : Exchange) (over : List Exchange) (turn : Turn) (next : ℕ) (ls : List Leg) (run : Option View)
    → has_ended site c e ≡ false → Deals site c L event acts e over false turn next ls run → EndsAt (has_room c (after_step L event acts)) turn run → ChildrenGood site c (step_of L event acts)
