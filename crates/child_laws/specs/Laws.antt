-- What is known of the children goes on from item to item.
use Rattle.std.specs.Prelude.{ℕ, Bool, true, false, not, ◌&&◌, ◌+◌, ◌≡◌, ◌≤◌, List, [], ◌∷◌, ◌++◌, length, map, Option, Some, None, is_some, option_map, Ok}
use Rattle.host_base.specs.declared.launch.Launch.{Launch}
use Rattle.host_base.specs.declared.request.Request.{Request}
use Rattle.host_base.specs.declared.site.Mapped.{Mapped}
use Rattle.host_base.specs.declared.site.ScriptKind.{ScriptKind}
use Rattle.host_base.specs.declared.site.Site.{Site}
use Rattle.host_trace.specs.declared.items.Act.{Act}
use Rattle.host_trace.specs.declared.items.Act.TheVariants.{Shut, Start}
use Rattle.host_trace.specs.declared.items.Event.{Event}
use Rattle.host_trace.specs.declared.items.Item.{Item}
use Rattle.host_trace.specs.declared.items.Item.TheVariants.{In, Out}
use Rattle.host_trace.specs.declared.items.Why.TheVariants.{NoMemory}
use Rattle.host_trace.specs.Decider.{is_websocket}
use Rattle.host_trace.specs.Account.{has_unsettled, settled}
use Rattle.host_trace.specs.Projections.{stopped}
use Rattle.own_traces.specs.OwnFits.{fits_own}
use Rattle.trace_child.specs.ChildDemands.{is_all_taken}
use Rattle.trace_child.specs.Decided.{outcome_of}
use Rattle.child_core.specs.declared.ending.Ending.TheVariants.{Dropped, Incomplete}
use Rattle.child_core.specs.Calls.{drained, ended, is_settled, offered, wants_more}
use Rattle.child_core.specs.Due.{Due, acted, acting, given}
use Rattle.child_core.specs.Knows.{read}
use Rattle.child_core.specs.Laws.{just_begun}
use Rattle.child_core.specs.Output.{HoldsOutput}
use Rattle.child_core.specs.Setting.{Setting}
use Rattle.child_core.specs.View.{View, begun}
use Rattle.trace_model.specs.Answer.{legs}
use Rattle.trace_model.specs.Exchange.{Exchange, first_exchange, pushed, all_of, up_to}
use Rattle.trace_model.specs.Exchanges.{following, has_ended}
use Rattle.trace_model.specs.Standing.{stands_whole}
use Rattle.trace_model.specs.Legs.{Leg, leg_of, run_of, offered_at}
use Rattle.trace_model.specs.Places.{kind_of, place_of}
use Rattle.conn_laws.specs.Ends.{IsLastChild}
use Rattle.conn_laws.specs.Form.{is_to_connection}
use Rattle.conn_laws.specs.Hops.{StillReaches}
use Rattle.conn_laws.specs.Quiet.{is_plain}
use Rattle.child_laws.specs.Setting.{setting}
use Rattle.child_laws.specs.Legs.{children_of_legs, SameRuns}
use Rattle.child_laws.specs.Children.{IsSpent, KnowsChildren, is_over, dropped}
use Rattle.child_laws.specs.Heard.{heard_by, last_hop, run_heard}

-- ---- the beginning, and between exchanges

abbrev pub NothingIsStarted : Type 0
NothingIsStarted = (site : Site) (c next : ℕ) → KnowsChildren site c first_exchange false next [] None

-- The exchange that follows has no children.
abbrev pub ExchangesFollow : Type 0
ExchangesFollow = (site : Site) (c : ℕ) (e : Exchange) (early later : Bool) (next : ℕ) (ls : List Leg) (run : Option View)
    → KnowsChildren site c e early next ls run → KnowsChildren site c (following site c e) later next [] None

-- Children of other connections were started since.
abbrev pub NumbersRise : Type 0
NumbersRise = (site : Site) (c : ℕ) (e : Exchange) (early : Bool) (next more : ℕ) (ls : List Leg) (run : Option View) → next ≤ more
    → KnowsChildren site c e early next ls run → KnowsChildren site c e early more ls run

-- ---- events

-- An event that fits makes of the last run what its calls make of it.
abbrev pub EventsAreKnown : Type 0
EventsAreKnown = (site : Site) (c : ℕ) (e : Exchange) (next : ℕ) (ls : List Leg) (run : Option View) (ev : Event) (found : Bool) → 2 ≤ site.limits.head
    → fits_own site.limits.children (all_of e) ev ≡ true → KnowsChildren site c e false next ls run
    → KnowsChildren site c (pushed e (In ev)) false next ls (run_heard site c e ls found ev run)

-- ---- acts

-- An act on the connection alone changes nothing, unless it is a Shut for want of memory.
abbrev pub OtherActsAreKnown : Type 0
OtherActsAreKnown = (site : Site) (c : ℕ) (e : Exchange) (early : Bool) (next : ℕ) (ls : List Leg) (run : Option View) (act : Act) → 2 ≤ site.limits.head
    → is_to_connection act ≡ true → is_plain act ≡ true → KnowsChildren site c e early next ls run
    → KnowsChildren site c (pushed e (Out act)) early next ls run

-- Memory ran out: the connection ends the run ..
abbrev pub LossesAreKnown : Type 0
LossesAreKnown = (site : Site) (c : ℕ) (e : Exchange) (early : Bool) (next : ℕ) (ls : List Leg) (run : Option View)
    → KnowsChildren site c e early next ls run → KnowsChildren site c e true next ls (dropped run)

-- .. and the Shut says so.
abbrev pub ShutsAreKnown : Type 0
ShutsAreKnown = (site : Site) (c : ℕ) (e : Exchange) (next : ℕ) (ls : List Leg) (run : Option View) → 2 ≤ site.limits.head
    → KnowsChildren site c e true next ls run → KnowsChildren site c (pushed e (Out (Shut c NoMemory))) false next ls run

-- An act that is due for the run makes of it what it makes of the run that is held.
abbrev pub RunActsAreKnown : Type 0
RunActsAreKnown = (site : Site) (c : ℕ) (e : Exchange) (early may : Bool) (next : ℕ) (ls : List Leg) (held : View) (act : Act) → 2 ≤ site.limits.head
    → Due may held act → KnowsChildren site c e early next ls (Some held)
    → KnowsChildren site c (pushed e (Out act)) early next ls (Some (given held act)) × (has_unsettled e.items c ≡ true)

-- the exchange with these acts more
abbrev pub with_acts : Exchange → List Act → Exchange
with_acts e acts = record e { items = e.items ++ map Out acts }

-- .. and so do all that are due, given one after another.
abbrev pub ServesAreKnown : Type 0
ServesAreKnown = (site : Site) (c : ℕ) (e : Exchange) (early may : Bool) (next : ℕ) (ls : List Leg) (held : View) → 2 ≤ site.limits.head
    → KnowsChildren site c e early next ls (Some held) → KnowsChildren site c (with_acts e (acting may held)) early next ls (Some (acted may held))

-- What there must be for a Start: these legs led to the hop, its script is found, no child is unsettled, and the server is
-- not to end; and these bytes of a body are there for its input, all of them or not.
pub record MayStart (site : Site) (c : ℕ) (e : Exchange) (ls : List Leg) (run : Option View) (hop : ℕ) (kind : ScriptKind) (request : Request) (body : List ℕ) (whole : Bool) : Type 0 where
  pub left : ℕ
  pub reached : StillReaches site c e ls left hop request
  pub mapped : Mapped
  pub place : place_of site request ≡ Ok mapped
  pub kind_is : kind_of site mapped ≡ kind
  pub plain : is_websocket kind ≡ false
  pub offers : offered_at site c (up_to e []) hop e.items ≡ record { body = body; whole = whole }
  pub over : is_over run ≡ true
  pub going : stopped (all_of e) ≡ false

-- The next child is started, and offered what there is for its input.
abbrev pub StartsAreKnown : Type 0
StartsAreKnown = (site : Site) (c : ℕ) (e : Exchange) (next : ℕ) (ls : List Leg) (run : Option View) (hop : ℕ) (kind : ScriptKind) (request : Request) (launch : Launch)
    (body : List ℕ) (whole : Bool) → 2 ≤ site.limits.head → MayStart site c e ls run hop kind request body whole → KnowsChildren site c e false next ls run
    → KnowsChildren site c (pushed e (Out (Start next c e.number hop launch))) false (next + 1) (ls ++ leg_of hop kind request next ∷ [])
    (Some (just_begun (setting site c e hop) next kind body whole))

-- a new run to which this was offered
abbrev pub NewRunsAreOffered : Type 0
NewRunsAreOffered = (s : Setting) (k : ℕ) (kind : ScriptKind) (body : List ℕ) (whole : Bool) → offered (begun k kind s.limits) body whole ≡ just_begun s k kind body whole

-- ---- what it tells

-- whether a child is unsettled
abbrev pub UnsettledIsExact : Type 0
UnsettledIsExact = (site : Site) (c : ℕ) (e : Exchange) (early : Bool) (next : ℕ) (ls : List Leg) (run : Option View)
    → KnowsChildren site c e early next ls run → has_unsettled e.items c ≡ not (is_over run)

-- .. and whether the exchange has ended
abbrev pub EndsAreExact : Type 0
EndsAreExact = (site : Site) (c : ℕ) (e : Exchange) (early : Bool) (next : ℕ) (ls : List Leg) (run : Option View)
    → KnowsChildren site c e early next ls run → has_ended site c e ≡ (is_over run && stands_whole site c e)

-- of the last leg, by its run
pub record TellsLast (site : Site) (c : ℕ) (e : Exchange) (older : List Leg) (leg : Leg) (v : View) : Type 0 where
  pub number : v.number ≡ leg.child
  pub kind : v.kind ≡ leg.kind
  pub hop : leg.hop ≡ length older
  pub last : IsLastChild c e.items (children_of_legs older) leg.child
  pub outcome : outcome_of (run_of site c e leg) e.items ≡ option_map read v.outcome
  pub taken : wants_more v ≡ is_all_taken e.items leg.child
  pub settled : is_settled v ≡ settled e.items leg.child
  pub whole : is_some v.outcome ≡ false → v.whole ≡ (offered_at site c e leg.hop e.items).whole
  pub spent : IsSpent v

abbrev pub RunsTell : Type 0
RunsTell = (site : Site) (c : ℕ) (e : Exchange) (next : ℕ) (older : List Leg) (leg : Leg) (v : View)
    → KnowsChildren site c e false next (older ++ leg ∷ []) (Some v) → TellsLast site c e older leg v

-- Where a run is decided, or was offered all, calls that may come then change nothing; and what is lost is lost once.
pub record IsIdle (v : View) : Type 0 where
  pub offer : is_some v.outcome ≡ true → (more : List ℕ) (last : Bool) → offered v more last ≡ v
  pub whole : v.whole ≡ true → (last : Bool) → offered v [] last ≡ v
  pub cut : is_some v.outcome ≡ true → IsSpent v → ended v Incomplete ≡ v
  pub twice : ended (ended v Dropped) Dropped ≡ ended v Dropped
  pub unheard : (more : List ℕ) (last : Bool) → ended (offered v more last) Dropped ≡ ended v Dropped

abbrev pub SomeCallsAreIdle : Type 0
SomeCallsAreIdle = (v : View) → IsIdle v

-- ---- its output

-- What is kept of the child's output is kept with an event, where there was room for what it carries; `handed` was drained.
abbrev pub EventsHold : Type 0
EventsHold = (site : Site) (c : ℕ) (e : Exchange) (next : ℕ) (ls : List Leg) (v : View) (handed : List ℕ) (ev : Event) (found : Bool) → KnowsChildren site c e false next ls (Some v)
    → HoldsOutput false v handed e.items → HoldsOutput (not found) (heard_by site c e (last_hop ls) found ev v) handed (e.items ++ In ev ∷ [])

-- .. and draining it changes nothing else.
abbrev pub DrainsAreKnown : Type 0
DrainsAreKnown = (site : Site) (c : ℕ) (e : Exchange) (early : Bool) (next : ℕ) (ls : List Leg) (v : View)
    → KnowsChildren site c e early next ls (Some v) → KnowsChildren site c e early next ls (Some (drained v))

-- An act brings none.
abbrev pub ActsBringNothing : Type 0
ActsBringNothing = (lost : Bool) (v : View) (handed : List ℕ) (L : List Item) (act : Act) → HoldsOutput lost v handed L → HoldsOutput lost v handed (L ++ Out act ∷ [])

-- ---- the legs

-- The legs of the walk are these.
abbrev pub LegsAreKnown : Type 0
LegsAreKnown = (site : Site) (c : ℕ) (e : Exchange) (early : Bool) (next : ℕ) (ls : List Leg) (run : Option View)
    → KnowsChildren site c e early next ls run → SameRuns ls (legs site c e)
