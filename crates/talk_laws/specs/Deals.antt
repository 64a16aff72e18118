-- What the acts of a step do to the child of a WebSocket, from act to act; and the rules on children at the step's end.
use Rattle.std.specs.Prelude.{ℕ, ◌≡◌, ◌≤◌, ◌+◌, Bool, true, false, List, [], ◌∷◌, ◌++◌, map, Some, None}
use Rattle.std.specs.List.{AllByRecursion, list_any}
use Rattle.host_base.specs.declared.launch.Launch.{Launch}
use Rattle.host_base.specs.declared.site.ScriptKind.TheVariants.{WebSocket}
use Rattle.host_base.specs.declared.site.Site.{Site}
use Rattle.host_trace.specs.declared.items.Act.{Act}
use Rattle.host_trace.specs.declared.items.Act.TheVariants.{Start}
use Rattle.host_trace.specs.declared.items.Event.{Event}
use Rattle.host_trace.specs.declared.items.Item.{Item}
use Rattle.host_trace.specs.declared.items.Item.TheVariants.{In, Out}
use Rattle.host_trace.specs.Kinds.{names_child}
use Rattle.host_trace.specs.Trace.{after_step, step_of}
use Rattle.own_traces.specs.OwnFits.{fits_own}
use Rattle.trace_model.specs.Children.{ChildrenGood}
use Rattle.trace_model.specs.Demands.{has_room}
use Rattle.trace_model.specs.Exchange.{Exchange, all_of, pushed}
use Rattle.trace_model.specs.Exchanges.{current, current_after, ended_after, has_ended}
use Rattle.trace_model.specs.Legs.{Leg}
use Rattle.child_core.specs.Calls.{ended}
use Rattle.child_core.specs.declared.ending.Ending.TheVariants.{Dropped}
use Rattle.child_core.specs.Due.{acted as run_acted, acting as run_acting}
use Rattle.child_core.specs.View.{View as Run, begun as run_begun}
use Rattle.conn_laws.specs.Form.{is_to_connection}
use Rattle.child_laws.specs.Laws.{with_acts}
use Rattle.child_laws.specs.Moves.{Deals, EndsAt, may_lose}
use Rattle.child_laws.specs.Step.{LastIs, LegsOver, Turn, begun, served, waiting}
use Rattle.talk_core.specs.Acting.{acting}
use Rattle.talk_core.specs.Hearing.{run_heard}
use Rattle.talk_core.specs.View.{View as Talk}
use Rattle.talk_laws.specs.TalkIs.{TalkIs, TalkLostIs, TalkRests}
use Rattle.talk_laws.specs.Welcome.{IsOpening}

-- The exchange e of a WebSocket goes on after these acts of a step, and `over` ended before it in the step; the child had
-- its turn, or waits for it.
pub record TalkDeals (site : Site) (c : ℕ) (L : List Item) (event : Event) (acts : List Act) (e : Exchange) (over : List Exchange) (turn : Turn) (next : ℕ) (v : Run) : Type 0 where
  pub items : all_of e ≡ (L ++ In event ∷ []) ++ map Out acts
  pub fresh : (k : ℕ) → next ≤ k → list_any (names_child k) (all_of e) ≡ false
  pub last : LastIs (L ++ In event ∷ []) acts turn (Some v)
  pub ended_then : AllByRecursion (LegsOver site c (L ++ In event ∷ []) acts e.before) over
  pub goes_on : current_after site c (current site c L) (In event ∷ map Out acts) ≡ e
  pub gone : ended_after site c (current site c L) (In event ∷ map Out acts) ≡ over

-- ---- a step begins, or the program is started in it

abbrev pub TalkEventsBegin : Type 0
TalkEventsBegin = (site : Site) (c : ℕ) (L : List Item) (event : Event) (legs : List Leg) (continued : Bool) (t : Talk) (v : Run) (next : ℕ) → 2 ≤ site.limits.head
    → fits_own site.limits.children L event ≡ true → TalkIs site c (current site c L) legs continued t v → TalkRests c (current site c L) t v
    → ((k : ℕ) → next ≤ k → list_any (names_child k) L ≡ false)
    → TalkDeals site c L event [] (pushed (current site c L) (In event)) [] waiting next (run_heard t v event)

-- .. also where memory ran out before: then the run is decided
abbrev pub LostEventsBegin : Type 0
LostEventsBegin = (site : Site) (c : ℕ) (L : List Item) (event : Event) (legs : List Leg) (continued : Bool) (held : Run) (next : ℕ) → 2 ≤ site.limits.head
    → fits_own site.limits.children L event ≡ true → TalkLostIs site c (pushed (current site c L) (In event)) legs continued false held
    → ((k : ℕ) → next ≤ k → list_any (names_child k) L ≡ false)
    → TalkDeals site c L event [] (pushed (current site c L) (In event)) [] waiting next held

abbrev pub TalkStartsDeal : Type 0
TalkStartsDeal = (site : Site) (c : ℕ) (L : List Item) (event : Event) (acts : List Act) (e : Exchange) (over : List Exchange) (turn : Turn) (next : ℕ) (legs : List Leg)
    (continued : Bool) (launch : Launch) → 2 ≤ site.limits.head → IsOpening site c e legs continued launch true
    → Deals site c L event acts e over false turn next [] None
    → TalkDeals site c L event (acts ++ Start next c e.number 0 launch ∷ []) (pushed e (Out (Start next c e.number 0 launch))) over begun (next + 1)
    (run_begun next WebSocket site.limits)

-- ---- acts

-- An act on the connection changes nothing of that, where the exchange goes on.
abbrev pub ConnActsDeal : Type 0
ConnActsDeal = (site : Site) (c : ℕ) (L : List Item) (event : Event) (acts : List Act) (e : Exchange) (over : List Exchange) (turn : Turn) (next : ℕ) (v : Run) (act : Act)
    → is_to_connection act ≡ true → has_ended site c (pushed e (Out act)) ≡ false → TalkDeals site c L event acts e over turn next v
    → TalkDeals site c L event (acts ++ act ∷ []) (pushed e (Out act)) over turn next v

-- What is due for the talk, ..
abbrev pub TalkActsDeal : Type 0
TalkActsDeal = (site : Site) (c : ℕ) (L : List Item) (event : Event) (acts : List Act) (e : Exchange) (over : List Exchange) (turn : Turn) (next : ℕ) (legs : List Leg)
    (continued : Bool) (t : Talk) (v : Run) → 2 ≤ site.limits.head → TalkIs site c e legs continued t v → TalkDeals site c L event acts e over turn next v
    → TalkDeals site c L event (acts ++ acting t) (with_acts e (acting t)) over turn next v

-- .. and for the child, which then had its turn.
abbrev pub ChildActsDeal : Type 0
ChildActsDeal = (site : Site) (c : ℕ) (L : List Item) (event : Event) (acts : List Act) (e : Exchange) (over : List Exchange) (next : ℕ) (legs : List Leg)
    (continued may : Bool) (t : Talk) (v : Run) → 2 ≤ site.limits.head → TalkIs site c e legs continued t v → TalkDeals site c L event acts e over waiting next v
    → TalkDeals site c L event (acts ++ run_acting may v) (with_acts e (run_acting may v)) over (served may) next (run_acted may v)

-- Where memory runs out the run is ended for it, and then has its turn.
abbrev pub LossesDeal : Type 0
LossesDeal = (site : Site) (c : ℕ) (L : List Item) (event : Event) (acts : List Act) (e : Exchange) (over : List Exchange) (turn : Turn) (next : ℕ) (legs : List Leg)
    (continued : Bool) (t : Talk) (v : Run) → may_lose turn (Some v) ≡ true → TalkIs site c e legs continued t v → TalkDeals site c L event acts e over turn next v
    → TalkDeals site c L event acts e over turn next (ended v Dropped)

abbrev pub LostActsDeal : Type 0
LostActsDeal = (site : Site) (c : ℕ) (L : List Item) (event : Event) (acts : List Act) (e : Exchange) (over : List Exchange) (next : ℕ) (legs : List Leg)
    (continued early may : Bool) (held : Run) → 2 ≤ site.limits.head → TalkLostIs site c e legs continued early held
    → TalkDeals site c L event acts e over waiting next held
    → TalkDeals site c L event (acts ++ run_acting may held) (with_acts e (run_acting may held)) over (served may) next (run_acted may held)

-- ---- the end of a step

-- Then all rules on the children of the step hold.
pub record EndsWell (site : Site) (c : ℕ) (L : List Item) (event : Event) (acts : List Act) (e : Exchange) (over : List Exchange) (turn : Turn) (next : ℕ) (legs : List Leg) (continued : Bool) (v : Run) : Type 0 where
  pub talks : (t : Talk) → TalkIs site c e legs continued t v → ChildrenGood site c (step_of L event acts)
  pub lost : TalkLostIs site c e legs continued false v → ChildrenGood site c (step_of L event acts)

abbrev pub TalksEndWell : Type 0
TalksEndWell = (site : Site) (c : ℕ) (L : List Item) (event : Event) (acts : List Act) (e : Exchange) (over : List Exchange) (turn : Turn) (next : ℕ) (legs : List Leg)
    (continued : Bool) (v : Run) → TalkDeals site c L event acts e over turn next v → EndsAt (has_room c (after_step L event acts)) turn (Some v)
    → EndsWell site c L event acts e over turn next legs continued v
