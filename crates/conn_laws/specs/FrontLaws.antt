-- How what a connection knows of its exchange goes on with each item, and with each exchange.
use Rattle.std.specs.Prelude.{ℕ, ◌≡◌, ◌≤◌, Bool, true, false, not, List, [], Option, Some, None, map}
use Rattle.host_base.specs.declared.launch.Peer.{Peer}
use Rattle.host_base.specs.declared.site.Site.{Site}
use Rattle.host_trace.specs.declared.items.Act.{Act}
use Rattle.host_trace.specs.declared.items.Act.TheVariants.{Write}
use Rattle.host_trace.specs.declared.items.Event.{Event}
use Rattle.host_trace.specs.declared.items.Event.TheVariants.{Accepted}
use Rattle.host_trace.specs.declared.items.Item.TheVariants.{In, Out}
use Rattle.host_trace.specs.Account.{has_unsettled}
use Rattle.host_trace.specs.First.{or_else}
use Rattle.host_trace.specs.Kinds.{is_upgrade}
use Rattle.trace_model.specs.Exchange.{Exchange, continue_text, first_exchange, pushed, written}
use Rattle.trace_model.specs.Exchanges.{current_after, following, has_ended, next_by}
use Rattle.exchange_request.specs.Knows.{is_taken, is_ready, limits_of, KnowsRequest}
use Rattle.conn_laws.specs.Front.{Front, KnowsFront}
use Rattle.conn_laws.specs.Hearing.{Hears, GoesOn}
use Rattle.conn_laws.specs.Moves.{Move, Ending, HasEnded, AreInStep, acts_of, moved}

-- ---- the cut

-- Where the moves keep step with the exchanges, and the one that they lead to has not ended, it is the one that goes on.
abbrev pub MovesAreCuts : Type 0
MovesAreCuts = (site : Site) (c : ℕ) (e : Exchange) (moves : List Move) → AreInStep site c e moves → has_ended site c (moved site c e moves) ≡ false
    → current_after site c (next_by site c e (has_ended site c e)) (map Out (acts_of moves)) ≡ moved site c e moves

-- ---- the first exchange

-- what is held before anything was heard
pub record IsFresh (site : Site) (f : Front) : Type 0 where
  pub number : f.number ≡ 0
  pub idle_left : f.idle_left ≡ site.limits.idle_ticks
  pub continued : f.continued ≡ false
  pub closing : f.closing ≡ false
  pub idled : f.idled ≡ false
  pub limits_then : limits_of f.request ≡ site.limits
  pub request : KnowsRequest f.request [] 0
  pub ready : is_ready f.request ≡ false

abbrev pub StartsAreKnown : Type 0
StartsAreKnown = (site : Site) (c : ℕ) (f : Front) → IsFresh site f → KnowsFront site c None false true f first_exchange

-- ---- one item more

-- An act but Upgrade leaves what is known.
abbrev pub ActsKeepFronts : Type 0
ActsKeepFronts = (site : Site) (c : ℕ) (peer : Option Peer) (lost reading : Bool) (f : Front) (e : Exchange) (act : Act) → is_upgrade c (Out act) ≡ false
    → KnowsFront site c peer lost reading f e → KnowsFront site c peer lost reading f (pushed e (Out act))

-- the first client that is accepted is that of the connection
abbrev pub peer_after : Option Peer → Event → Option Peer
peer_after old (Accepted peer) = or_else old (Some peer)
peer_after old _ = old

-- With an event it knows the exchange with the event, where its child is settled as the list says.
abbrev pub EventsAreKnown : Type 0
EventsAreKnown = (site : Site) (c : ℕ) (peer : Option Peer) (lost lost' reading reading' : Bool) (f g : Front) (e : Exchange) (ev : Event) (settled : Bool)
    → 2 ≤ site.limits.head → settled ≡ not (has_unsettled e.items c) → (lost ≡ true → lost' ≡ true) → (reading ≡ false → reading' ≡ false)
    → Hears site.limits c settled peer lost' f (In ev) g → KnowsFront site c peer lost reading f e
    → KnowsFront site c (peer_after peer ev) lost' reading' g (pushed e (In ev))

-- 100 Continue is the first that is written of an exchange.
abbrev pub ContinuesAreKnown : Type 0
ContinuesAreKnown = (site : Site) (c : ℕ) (peer : Option Peer) (lost reading : Bool) (f : Front) (e : Exchange) → written c e ≡ []
    → KnowsFront site c peer lost reading f e → KnowsFront site c peer lost reading (record f { continued = true }) (pushed e (Out (Write c continue_text)))

-- ---- the next exchange

abbrev pub NextAreKnown : Type 0
NextAreKnown = (site : Site) (c : ℕ) (peer : Option Peer) (lost reading reading' : Bool) (f g : Front) (e : Exchange) (ending : Ending)
    → HasEnded site c e ending → ending.closes ≡ f.closes → ending.idled ≡ f.idled → ending.lost ≡ lost → ending.taken ≡ is_taken f.request
    → GoesOn site.limits f g → KnowsFront site c peer lost reading f e → KnowsFront site c peer lost reading' g (following site c e)
