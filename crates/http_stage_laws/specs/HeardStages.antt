-- What is known of a connection between two steps, and what an event makes of it.
use Rattle.std.specs.Prelude.{ℕ, ◌≡◌, ◌≤◌, ◌<◌, ◌^◌, ◌||◌, Bool, true, false, nat_lt, List, [], Some, is_some, length}
use Rattle.std.specs.List.{list_any}
use Rattle.host_base.specs.declared.cause.Cause.{Cause}
use Rattle.host_base.specs.declared.request.Request.{Request}
use Rattle.host_trace.specs.declared.items.Event.{Event}
use Rattle.host_trace.specs.declared.items.Item.{Item}
use Rattle.host_trace.specs.declared.items.Item.TheVariants.{In}
use Rattle.host_trace.specs.First.{since}
use Rattle.host_trace.specs.Kinds.{is_start}
use Rattle.host_trace.specs.Projections.{child_out}
use Rattle.own_traces.specs.OwnFits.{fits_own}
use Rattle.child_core.specs.Due.{is_at_rest}
use Rattle.child_core.specs.View.{View}
use Rattle.conn_flags.specs.Knows.{KnowsFlags}
use Rattle.conn_flags.specs.View.{has_room, is_live, noted}
use Rattle.host_trace.specs.Projections.{shut_for_memory}
use Rattle.trace_model.specs.Exchange.{Exchange, all_of, first_exchange, pushed, reading, request_bytes, up_to}
use Rattle.trace_model.specs.Exchanges.{current, has_ended}
use Rattle.trace_model.specs.Legs.{Leg as Started, offered_at}
use Rattle.trace_model.specs.Readings.{is_bare}
use Rattle.exchange_request.specs.Knows.{KnowsRequest, bare_of, is_looked_at, is_ready, is_taken}
use Rattle.exchange_stage.specs.declared.stage.Leg.{Leg}
use Rattle.exchange_stage.specs.declared.stage.Stage.TheVariants.{Interrupted, Running, Unstarted}
use Rattle.exchange_laws.specs.Bodies.{HasBody, body_heard}
use Rattle.exchange_laws.specs.Rules.{Rests}
use Rattle.exchange_laws.specs.Unanswered.{is_awaited}
use Rattle.child_laws.specs.Children.{KnowsChildren, dropped}
use Rattle.child_laws.specs.Heard.{run_heard}
use Rattle.http_conn.specs.HttpConn.{HttpConn}
use Rattle.http_conn.specs.Hears.{Hears}
use Rattle.http_conn.specs.New.{IsNew}
use Rattle.http_conn.specs.Kept.{StandsFor, is_reading, flags_of, number_of, site_of}
use Rattle.http_conn.specs.Ready.{Looked, undrained}
use Rattle.http_conn.specs.Reasons.{ends_with, is_done_with}
use Rattle.http_stage_laws.specs.Inward.{Inward}
use Rattle.http_stage_laws.specs.Staged.{Lost, Staged}

-- ---- its request

-- A script that waits for its turn has the body as far as it was heard. Once the request is not read any more, all that
-- was heard was looked at, or it was read to its end; and once it was found ready, all that came of its body was handed
-- out.
pub record HasHeard (conn : HttpConn) (e : Exchange) : Type 0 where
  pub bodies : (hop : ℕ) (request : Request) → conn.stage ≡ Unstarted hop request → HasBody (site_of conn) (number_of conn) e hop request
  pub looked : is_reading conn.stage ≡ false → (is_looked_at conn.request || is_taken conn.request) ≡ true
  pub handed : is_ready conn.request ≡ true → KnowsRequest conn.request (request_bytes (number_of conn) e) (length (body_heard (site_of conn) (number_of conn) e))

-- ---- its children

-- the output of each child that was started for it came behind its Start
abbrev pub StartsComeFirst : Exchange → Type 0
StartsComeFirst e = (k : ℕ) → list_any (is_start k) e.items ≡ true → child_out (since (is_start k) e.items) k ≡ child_out e.items k

-- ---- between two steps

-- At this exchange nothing is due, and 100 Continue doesn't wait to be written. While the connection is live nothing ends
-- it.
pub record Rested (conn : HttpConn) (e : Exchange) (legs : List Started) : Type 0 where
  pub staged : Staged conn e legs
  pub rests : Rests (site_of conn) (number_of conn) e legs (is_looked_at conn.request) staged.more conn.stage
  pub heard : HasHeard conn e
  pub going : is_live (flags_of conn) ≡ true → ends_with conn (is_done_with conn (request_bytes (number_of conn) e)) ≡ false
  pub let_on : conn.continued ≡ false → is_awaited (site_of conn) (number_of conn) e ≡ false

-- .. where memory ran out it was shut for that, and its run is decided
pub record RestedLost (conn : HttpConn) (e : Exchange) (legs : List Started) : Type 0 where
  pub lost : Lost conn e legs
  pub shut : (flags_of conn).shut ≡ true
  pub decided : (v : View) → conn.run ≡ Some v → is_some v.outcome ≡ true
  pub for_memory : shut_for_memory (all_of e) (number_of conn) ≡ true

-- The items of the connection, which speaks HTTP, are these, and this exchange goes on, for which these legs were started.
-- Nothing is due for its child. Of a connection that was not accepted nothing was heard.
pub record AtRest (conn : HttpConn) (L : List Item) (e : Exchange) (legs : List Started) (next : ℕ) : Type 0 where
  pub two : 2 ≤ (site_of conn).limits.head
  pub small : (site_of conn).limits.output < 2 ^ 64
  pub now : e ≡ current (site_of conn) (number_of conn) L
  pub front : StandsFor conn e
  pub children : KnowsChildren (site_of conn) (number_of conn) e false next legs conn.run
  pub even : (v : View) → conn.run ≡ Some v → is_at_rest (has_room (flags_of conn)) v ≡ true
  pub starts_first : StartsComeFirst e
  pub flags : KnowsFlags (flags_of conn) L
  pub inward : Inward conn
  pub unheard : (flags_of conn).accepted ≡ false → (request_bytes (number_of conn) e ≡ []) × (e.closed ≡ false)
  pub unended : has_ended (site_of conn) (number_of conn) e ≡ false
  pub found : conn.lost ≡ false → Rested conn e legs
  pub lost : conn.lost ≡ true → RestedLost conn e legs

-- Before it heard anything a connection is at rest.
abbrev pub StartsRest : Type 0
StartsRest = (conn : HttpConn) (next : ℕ) → 2 ≤ (site_of conn).limits.head → (site_of conn).limits.output < 2 ^ 64 → IsNew conn → AtRest conn [] first_exchange [] next

-- ---- an event

-- nothing else changes than what an event may change
pub record SameAs (old new : HttpConn) : Type 0 where
  pub site : site_of new ≡ site_of old
  pub number : number_of new ≡ number_of old
  pub cut : new.cut ≡ old.cut
  pub closing : new.closing ≡ old.closing
  pub closes : new.closes ≡ old.closes
  pub continued : new.continued ≡ old.continued

-- .. but the flags, which know the event
pub record KeepsRest (old : HttpConn) (ev : Event) (new : HttpConn) : Type 0 where
  pub same : SameAs old new
  pub flags : flags_of new ≡ noted (flags_of old) (In ev)

-- So does each event, whether memory runs out or not.
abbrev pub EventsKeep : Type 0
EventsKeep = (old new : HttpConn) (ev : Event) → (h : Hears old ev new) → KeepsRest old ev h.mid

-- Memory was found: the run heard the event. Whether a broken request is bare is known; of a reply all was written that
-- was handed out, and a Tick comes by itself.
pub record HeardWell (old new : HttpConn) (e : Exchange) (ev : Event) (legs : List Started) : Type 0 where
  pub staged : Staged new (pushed e (In ev)) legs
  pub run : new.run ≡ run_heard (site_of old) (number_of old) e legs true ev old.run
  pub heard : HasHeard new (pushed e (In ev))
  pub bare : (cause : Cause) → new.stage ≡ Interrupted cause → bare_of new.request ≡ is_bare (reading (site_of new) (number_of new) (pushed e (In ev)))
  pub written : (leg : Leg) → new.stage ≡ Running leg → leg.text ≡ []
  pub apart : (leg : Leg) → new.stage ≡ Running leg → leg.ticked ≡ true → undrained new.run ≡ []

-- .. it was wanting: the run heard the event, with what it carries or without, and was given up
pub record HeardLost (old new : HttpConn) (e : Exchange) (ev : Event) (legs : List Started) : Type 0 where
  pub lost : Lost new (pushed e (In ev)) legs
  pub found : Bool
  pub run : new.run ≡ dropped (run_heard (site_of old) (number_of old) e legs found ev old.run)

-- .. it had been wanting
pub record HeardStill (old new : HttpConn) (e : Exchange) (ev : Event) (legs : List Started) : Type 0 where
  pub lost : Lost new (pushed e (In ev)) legs
  pub run : new.run ≡ run_heard (site_of old) (number_of old) e legs true ev old.run

-- An event that fits, heard between two steps, leads to the stage that the model says, where memory was found. (Whether
-- its exchange has ended then is asked afterwards.)
abbrev pub EventsAreStaged : Type 0
EventsAreStaged = (old new : HttpConn) (L : List Item) (e : Exchange) (legs : List Started) (next : ℕ) (ev : Event) → AtRest old L e legs next
    → fits_own (site_of old).limits.children L ev ≡ true → old.lost ≡ false → (h : Hears old ev new) → h.mid.lost ≡ false → HeardWell old h.mid e ev legs

-- .. and where it was wanting, to what is known then.
abbrev pub EventsLose : Type 0
EventsLose = (old new : HttpConn) (L : List Item) (e : Exchange) (legs : List Started) (next : ℕ) (ev : Event) → AtRest old L e legs next
    → fits_own (site_of old).limits.children L ev ≡ true → old.lost ≡ false → (h : Hears old ev new) → h.mid.lost ≡ true → HeardLost old h.mid e ev legs

-- .. and where it had been wanting, it stays so; for all that comes there is room.
abbrev pub EventsStayLost : Type 0
EventsStayLost = (old new : HttpConn) (L : List Item) (e : Exchange) (legs : List Started) (next : ℕ) (ev : Event) → AtRest old L e legs next
    → fits_own (site_of old).limits.children L ev ≡ true → old.lost ≡ true → (h : Hears old ev new) → (h.mid.lost ≡ true) × HeardStill old h.mid e ev legs

-- ---- its body, within a step

-- What came of the body is what there is for the input of a script that waits for its turn.
abbrev pub OffersAreKnown : Type 0
OffersAreKnown = (conn : HttpConn) (e : Exchange) (hop : ℕ) (request : Request) → StandsFor conn e → conn.lost ≡ false → e.closed ≡ false → HasHeard conn e → conn.stage ≡ Unstarted hop request
    → offered_at (site_of conn) (number_of conn) (up_to e []) hop e.items ≡ record { body = request.body; whole = nat_lt 0 hop || is_taken conn.request }

-- A look at what was heard hands out what came of the body.
abbrev pub LooksAreHeard : Type 0
LooksAreHeard = (old new : HttpConn) (e : Exchange) → StandsFor old e → old.lost ≡ false → e.closed ≡ false → HasHeard old e → Looked old new → HasHeard new e
