-- What holds of the lists of connections.
use Rattle.std.specs.Prelude.{ℕ, ◌+◌, true, false, List, [], ◌∷◌, ◌++◌, ◌≡◌, ◌≢◌, ◌<◌}
use Rattle.host_base.specs.declared.launch.Peer.{Peer}
use Rattle.host_trace.specs.declared.items.Event.{Event}
use Rattle.host_trace.specs.declared.items.Event.TheVariants.{Accepted, Tick, Stop}
use Rattle.host_trace.specs.declared.items.Act.{Act}
use Rattle.host_trace.specs.declared.items.Item.{Item}
use Rattle.host_trace.specs.declared.items.Item.TheVariants.{In}
use Rattle.host_trace.specs.Kinds.{names, names_child}
use Rattle.host_trace.specs.Projections.{own, is_own, children, start_count, accepted_count, stopped, shut, upgraded, last_secs, client_in, client_out, said, heard, pending, child_in, child_out}
use Rattle.host_trace.specs.Account.{settled, has_unsettled}
use Rattle.host_trace.specs.Fits.{fits}
use Rattle.own_traces.specs.Whose.{has, is_common, is_of, are_of}
use Rattle.own_traces.specs.Between.{Between}
use Rattle.own_traces.specs.Moved.{Moved, Heard, HeardByAll}
use Rattle.own_traces.specs.OwnFits.{fits_own}

abbrev pub NothingIsBetween : Type 0
NothingIsBetween = Between []

-- Acts of a connection that was accepted join its list and no other, and each act has its place.
abbrev pub ActsAreOfOne : Type 0
ActsAreOfOne = (T : List Item) (c : ℕ) (acts : List Act) → Between T → c < accepted_count T
    → are_of c (children T c) (start_count T) acts ≡ true → Moved T c acts

-- An event that names a connection, or one of its children, joins its list and no other.
abbrev pub EventsAreOfOne : Type 0
EventsAreOfOne = (T : List Item) (c : ℕ) (event : Event) → Between T → c < accepted_count T → is_common (In event) ≡ false
    → is_of c (children T c) (start_count T) (In event) ≡ true → Heard T c event

abbrev pub TicksAreOfAll : Type 0
TicksAreOfAll = (T : List Item) (secs : ℕ) → Between T → HeardByAll T (Tick secs)

abbrev pub StopsAreOfAll : Type 0
StopsAreOfAll = (T : List Item) → Between T → HeardByAll T Stop

-- what an Accepted leaves
pub record Begins (T : List Item) (peer : Peer) : Type 0 where
  pub mine : own (T ++ In (Accepted peer) ∷ []) (accepted_count T) ≡ own T (accepted_count T) ++ In (Accepted peer) ∷ []
  pub others : (d : ℕ) → d ≢ accepted_count T → own (T ++ In (Accepted peer) ∷ []) d ≡ own T d
  pub between : Between (T ++ In (Accepted peer) ∷ [])
  pub count : start_count (T ++ In (Accepted peer) ∷ []) ≡ start_count T
  pub accepted : accepted_count (T ++ In (Accepted peer) ∷ []) ≡ accepted_count T + 1

abbrev pub NewConnectionsBegin : Type 0
NewConnectionsBegin = (T : List Item) (peer : Peer) → Between T → Begins T peer

-- An event that joins the list of a connection fits it exactly where it fits the trace.
abbrev pub OwnEventsFit : Type 0
OwnEventsFit = (limit : ℕ) (T : List Item) (c : ℕ) (event : Event) → Between T
    → is_own c (children T c) (accepted_count T) (In event) ≡ true → fits_own limit (own T c) event ≡ fits limit T event

-- whom an event that fits names
pub record NamesKnown (T : List Item) (event : Event) : Type 0 where
  pub conns : (c : ℕ) → names c (In event) ≡ true → c < accepted_count T
  pub kids : (k : ℕ) → names_child k (In event) ≡ true → k < start_count T

abbrev pub NumbersAreKnown : Type 0
NumbersAreKnown = (limit : ℕ) (T : List Item) (event : Event) → Between T → fits limit T event ≡ true → NamesKnown T event

-- what the list of c says as the trace does
pub record Says (T : List Item) (c : ℕ) : Type 0 where
  pub clock : last_secs (own T c) ≡ last_secs T
  pub stopped_then : stopped (own T c) ≡ stopped T
  pub shut_then : shut (own T c) c ≡ shut T c
  pub upgraded_then : upgraded (own T c) c ≡ upgraded T c
  pub client_sent : client_in (own T c) c ≡ client_in T c
  pub client_got : client_out (own T c) c ≡ client_out T c
  pub texts_said : said (own T c) c ≡ said T c
  pub texts_heard : heard (own T c) c ≡ heard T c
  pub waits : pending (own T c) c ≡ pending T c
  pub starts : children (own T c) c ≡ children T c
  pub unsettled : has_unsettled (own T c) c ≡ has_unsettled T c
  pub kid_settled : (k : ℕ) → has (children T c) k ≡ true → settled (own T c) k ≡ settled T k
  pub kid_in : (k : ℕ) → has (children T c) k ≡ true → child_in (own T c) k ≡ child_in T k
  pub kid_out : (k : ℕ) → has (children T c) k ≡ true → child_out (own T c) k ≡ child_out T k

abbrev pub WordsAreKept : Type 0
WordsAreKept = (T : List Item) (c : ℕ) → Between T → Says T c
