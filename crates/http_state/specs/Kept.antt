-- What no part of a step changes of a connection, and which acts it gives.
use Rattle.std.specs.Prelude.{ℕ, Bool, true, false, not, ◌≡◌, ◌≤◌, List, [], Option, Some, None}
use Rattle.host_base.specs.declared.launch.Peer.{Peer}
use Rattle.host_base.specs.declared.site.Site.{Site}
use Rattle.host_trace.specs.declared.items.Act.{Act}
use Rattle.host_trace.specs.declared.items.Event.{Event}
use Rattle.host_trace.specs.declared.items.Item.{Item}
use Rattle.host_trace.specs.declared.items.Item.TheVariants.{In}
use Rattle.host_trace.specs.Account.{has_unsettled}
use Rattle.host_trace.specs.Told.{Adds}
use Rattle.own_traces.specs.Whose.{has, are_of, kids_after, next_after}
use Rattle.child_core.specs.View.{View}
use Rattle.conn_flags.specs.View.{View as Flags, noted}
use Rattle.conn_flags.specs.Form.{given_all, are_given}
use Rattle.trace_model.specs.Exchange.{Exchange, pushed}
use Rattle.exchange_stage.specs.declared.stage.Stage.{Stage}
use Rattle.exchange_stage.specs.declared.stage.Stage.TheVariants.{Reading}
use Rattle.conn_laws.specs.Front.{Front, KnowsFront}
use Rattle.conn_laws.specs.Hearing.{Hears}
use Rattle.conn_laws.specs.FrontLaws.{peer_after}
use Rattle.conn_laws.specs.Moves.{Move, AreInStep, AllBelong, acts_of, moved}
use Rattle.http_state.specs.declared.conn.HttpConn.{HttpConn}
use Rattle.http_state.specs.Slot.{run_settled}

abbrev pub site_of : HttpConn → Site
site_of conn = conn.site.now

abbrev pub flags_of : HttpConn → Flags
flags_of conn = conn.flags

abbrev pub number_of : HttpConn → ℕ
number_of conn = (flags_of conn).c

-- the client, once it was accepted
abbrev pub peer_of : HttpConn → Option Peer
peer_of conn = conn.peer

-- the child is one of these
abbrev pub Within : Option View → List ℕ → Type 0
Within None ks = Unit {0}
Within (Some v) ks = has ks v.number ≡ true

-- the child of the connection, where it has one, is one of these
abbrev pub HasChildIn : HttpConn → List ℕ → Type 0
HasChildIn conn ks = Within conn.run ks

-- ---- what is known of its exchange beside its script

abbrev pub is_reading : Stage → Bool
is_reading Reading = true
is_reading _ = false

abbrev pub front_of : HttpConn → Front
front_of conn = record {
  number = conn.number;
  idle_left = conn.idle_left;
  request = conn.request;
  continued = conn.continued;
  closing = conn.closing;
  closes = conn.closes;
  idled = conn.idled;
}

-- the exchange that goes on is this one, as far as its front says
abbrev pub StandsFor : HttpConn → Exchange → Type 0
StandsFor conn e = KnowsFront (site_of conn) (number_of conn) (peer_of conn) conn.lost (is_reading conn.stage) (front_of conn) e

-- From an exchange that it stood for, these moves lead to one that it stands for then, where they keep step with the
-- model; and each act belongs to its exchange.
abbrev pub Led : Site → ℕ → HttpConn → Exchange → List Move → Type 0
Led site c new e moves = AreInStep site c e moves → StandsFor new (moved site c e moves) × AllBelong site c e moves

abbrev pub Leads : Site → ℕ → HttpConn → HttpConn → List Move → Type 0
Leads site c old new moves = (e : Exchange) → StandsFor old e → Led site c new e moves

-- the children of the exchange are settled
abbrev pub is_settled_as : HttpConn → Exchange → Bool
is_settled_as conn e = not (has_unsettled e.items (number_of conn))

-- ---- parts of a step that give no act

-- The connection is the same, and so are its child, where it has one, and its front. Memory that was wanting stays so,
-- and no request is read anew.
pub record Kept (old new : HttpConn) : Type 0 where
  pub site : site_of new ≡ site_of old
  pub flags : flags_of new ≡ flags_of old
  pub peer_is : peer_of new ≡ peer_of old
  pub child : (ks : List ℕ) → HasChildIn old ks → HasChildIn new ks
  pub front : front_of new ≡ front_of old
  pub lost : old.lost ≡ true → new.lost ≡ true
  pub reading : is_reading old.stage ≡ false → is_reading new.stage ≡ false

-- The connection is the same, and its exchange goes on, or the next one does; this was done.
pub record Turned (Does : HttpConn → ℕ → List Move → HttpConn → Type 0) (old new : HttpConn) : Type 0 where
  pub site : site_of new ≡ site_of old
  pub flags : flags_of new ≡ flags_of old
  pub peer_is : peer_of new ≡ peer_of old
  pub child : (ks : List ℕ) → HasChildIn old ks → HasChildIn new ks
  pub moves : List Move
  pub none : acts_of moves ≡ []
  pub keeps : Leads (site_of old) (number_of old) old new moves
  pub does : (n : ℕ) → Does old n moves new

-- an event was taken into account for the exchange that goes on
pub record HeardOwn (old : HttpConn) (ev : Event) (new : HttpConn) : Type 0 where
  pub site : site_of new ≡ site_of old
  pub flags : flags_of new ≡ flags_of old
  pub peer_is : peer_of new ≡ peer_after (peer_of old) ev
  pub child : (ks : List ℕ) → HasChildIn old ks → HasChildIn new ks
  pub lost : old.lost ≡ true → new.lost ≡ true
  pub reading : is_reading old.stage ≡ false → is_reading new.stage ≡ false
  pub front : Hears (site_of old).limits (number_of old) (run_settled old.run) (peer_of old) new.lost (front_of old) (In ev) (front_of new)

-- an event was taken into account
pub record Heard (old : HttpConn) (ev : Event) (new : HttpConn) : Type 0 where
  pub site : site_of new ≡ site_of old
  pub flags : flags_of new ≡ noted (flags_of old) (In ev)
  pub peer_is : peer_of new ≡ peer_after (peer_of old) ev
  pub child : (ks : List ℕ) → HasChildIn old ks → HasChildIn new ks
  pub moves : List Move
  pub none : acts_of moves ≡ []
  pub keeps : (e : Exchange) → 2 ≤ (site_of old).limits.head → run_settled old.run ≡ is_settled_as old e → StandsFor old e
      → Led (site_of old) (number_of old) new (pushed e (In ev)) moves

-- ---- parts that give acts

-- the acts are of connection c alone, whose children were `ks`, where the next child had number n; and the child that
-- it has then is one of its children
pub record AreOwn (c n : ℕ) (ks : List ℕ) (acts : List Act) (new : HttpConn) : Type 0 where
  pub are : are_of c ks n acts ≡ true
  pub child : HasChildIn new (kids_after ks c acts)

-- Acts of the connection and its child alone were given, each of them in form, and nothing else was; its flags know
-- them; and the next child's number counts the Starts among them. The acts, and the ends of exchanges between them, lead
-- from the exchange that it stood for to the one that it stands for, where they keep step with the model, and each act
-- belongs to its exchange; and this was done.
pub record Gave (Does : HttpConn → ℕ → List Move → HttpConn → Type 0) (old : HttpConn) (n : ℕ) (before : Option (List Item)) (new : HttpConn) (m : ℕ) (after : Option (List Item)) : Type 0 where
  pub acts : List Act
  pub told : Adds before acts after
  pub next : m ≡ next_after n acts
  pub site : site_of new ≡ site_of old
  pub peer_is : peer_of new ≡ peer_of old
  pub form : are_given (flags_of old) acts ≡ true
  pub flags : flags_of new ≡ given_all (flags_of old) acts
  pub own : (ks : List ℕ) → HasChildIn old ks → AreOwn (number_of old) n ks acts new
  pub moves : List Move
  pub same : acts_of moves ≡ acts
  pub keeps : Leads (site_of old) (number_of old) old new moves
  pub does : Does old n moves new
