-- The step of a connection in which the handshake of a WebSocket is accepted.
use Rattle.std.specs.Prelude.{ℕ, ◌≡◌, ◌≤◌, Bool, true, false, List, [], ◌∷◌, ◌++◌, Option}
use Rattle.std.specs.List.{list_any}
use Rattle.host_base.specs.declared.launch.Launch.{Launch}
use Rattle.host_base.specs.declared.request.Request.{Request}
use Rattle.host_base.specs.declared.site.Mapped.{Mapped}
use Rattle.host_base.specs.declared.site.Site.{Site}
use Rattle.host_trace.specs.declared.items.Act.{Act}
use Rattle.host_trace.specs.declared.items.Act.TheVariants.{Shut, Start, Upgrade}
use Rattle.host_trace.specs.declared.items.Event.{Event}
use Rattle.host_trace.specs.declared.items.Event.TheVariants.{Stop, Tick, Took}
use Rattle.host_trace.specs.declared.items.Item.{Item}
use Rattle.host_trace.specs.declared.items.Item.TheVariants.{In}
use Rattle.host_trace.specs.declared.items.Why.TheVariants.{NoMemory}
use Rattle.host_trace.specs.Kinds.{is_accepted}
use Rattle.host_trace.specs.Projections.{children, children_of, last_secs, shut, shut_for_memory}
use Rattle.host_trace.specs.Trace.{after_step, step_of}
use Rattle.own_traces.specs.OwnFits.{fits_own}
use Rattle.own_traces.specs.Whose.{are_of, next_after}
use Rattle.trace_model.specs.Exchange.{Exchange}
use Rattle.trace_model.specs.Exchanges.{current}
use Rattle.trace_model.specs.Good.{StepGood}
use Rattle.trace_model.specs.Legs.{Leg as Started}
use Rattle.exchange_laws.specs.Walked.{HasChildren}
use Rattle.conn_flags.specs.View.{View as Flags, noted}
use Rattle.conn_flags.specs.Form.{are_given, given_all}
use Rattle.conn_flags.specs.Knows.{KnowsFlags}
use Rattle.conn_laws.specs.Moves.{Move, acts_of}
use Rattle.http_conn.specs.HttpConn.{HttpConn}
use Rattle.http_conn.specs.Hears.{Hears}
use Rattle.http_conn.specs.Kept.{flags_of, number_of, site_of}
use Rattle.http_conn.specs.Opens.{Misses, Opens, acts_upgraded}
use Rattle.http_conn.specs.Welcomes.{Greets}
use Rattle.http_stage_laws.specs.HeardStages.{AtRest}
use Rattle.talk_core.specs.Laws.{is_of_talk}
use Rattle.talk_laws.specs.Welcome.{IsGreeted}
use Rattle.talk_conn.specs.declared.conn.TalkConn.{TalkConn}
use Rattle.talk_conn.specs.View.{number_of as talk_number, site_of as talk_site}
use Rattle.talk_laws.specs.Stands.{TalkStands}

-- ---- a connection that speaks HTTP

-- Nothing of a WebSocket stands on its list. So it stays with an event that fits and acts that its flags allow, by none of
-- which it comes to speak WebSocket.
abbrev pub UntalkedStays : Type 0
UntalkedStays = (site : Site) (m : Flags) (L : List Item) (ev : Event) (acts : List Act) → KnowsFlags m L → fits_own site.limits.children L ev ≡ true
    → are_given (noted m (In ev)) acts ≡ true → (given_all (noted m (In ev)) acts).upgraded ≡ false → list_any (is_of_talk m.c) L ≡ false
    → list_any (is_of_talk m.c) (after_step L ev acts) ≡ false

-- ---- it speaks WebSocket from now on

-- the acts of the step behind its accept text
abbrev pub acts_opened : HttpConn → ℕ → Launch → List ℕ → List Act
acts_opened conn k launch rest = Upgrade (number_of conn) rest ∷ Start k (number_of conn) conn.number 0 launch ∷ []

-- All rules of the model on the connection hold of the step, and the talk stands as its next step needs it.
pub record IsOpened (old : HttpConn) (talk : TalkConn) (L : List Item) (ev : Event) (acts : List Act) (next : ℕ) : Type 0 where
  pub good : StepGood (site_of old) (number_of old) (step_of L ev acts)
  pub site : talk_site talk ≡ site_of old
  pub number : talk_number talk ≡ number_of old
  pub stands : TalkStands talk (after_step L ev acts) next

-- So it is of a connection at rest, of whose list nothing is of a WebSocket, whatever event comes that fits.
abbrev pub OpeningsAreGood : Type 0
OpeningsAreGood = (old mid conn : HttpConn) (talk : TalkConn) (L : List Item) (e : Exchange) (legs : List Started) (ev : Event) (stamp : Option ℕ) (n m : ℕ)
    (launch : Launch) (moves : List Move) (before after : Option (List Item)) → AtRest old L e legs n → list_any (is_of_talk (number_of old)) L ≡ false
    → fits_own (site_of old).limits.children L ev ≡ true → stamp ≡ last_secs (L ++ In ev ∷ []) → Hears old ev mid → Greets launch stamp mid n moves conn
    → are_given (noted (flags_of old) (In ev)) (acts_of moves) ≡ true → are_of (number_of old) (children L (number_of old)) n (acts_of moves) ≡ true
    → (o : Opens launch conn (next_after n (acts_of moves)) before talk m after)
    → IsOpened old talk L ev (acts_of moves ++ acts_opened conn (next_after n (acts_of moves)) launch o.rest) m

-- ---- memory ran out for that

-- the acts of the step behind its accept text
abbrev pub acts_missed : HttpConn → List ℕ → Bool → List Act
acts_missed conn rest upgraded = acts_upgraded (number_of conn) rest upgraded ++ Shut (number_of conn) NoMemory ∷ []

-- The accept text stands, nothing was started for it, and the connection was shut for want of memory.
pub record IsClosed (site : Site) (c : ℕ) (L : List Item) : Type 0 where
  pub two : 2 ≤ site.limits.head
  pub continued : Bool
  pub value : List ℕ
  pub request : Request
  pub mapped : Mapped
  pub greeted : IsGreeted site c (current site c L) continued value request mapped
  pub no_child : HasChildren c (current site c L) []
  pub first : children_of (current site c L).items c (current site c L).number 0 ≡ []
  pub accepted : list_any is_accepted L ≡ true
  pub shut_is : shut L c ≡ true
  pub for_memory : shut_for_memory L c ≡ true

-- All rules of the model on the connection hold of the step, and nothing more is due for it.
pub record IsMissed (site : Site) (c : ℕ) (L : List Item) (ev : Event) (acts : List Act) : Type 0 where
  pub good : StepGood site c (step_of L ev acts)
  pub closed : IsClosed site c (after_step L ev acts)

abbrev pub MissesAreGood : Type 0
MissesAreGood = (old mid conn new : HttpConn) (L : List Item) (e : Exchange) (legs : List Started) (ev : Event) (stamp : Option ℕ) (n m : ℕ) (launch : Launch)
    (moves : List Move) (before after : Option (List Item)) → AtRest old L e legs n → list_any (is_of_talk (number_of old)) L ≡ false
    → fits_own (site_of old).limits.children L ev ≡ true → stamp ≡ last_secs (L ++ In ev ∷ []) → Hears old ev mid → Greets launch stamp mid n moves conn
    → are_given (noted (flags_of old) (In ev)) (acts_of moves) ≡ true → are_of (number_of old) (children L (number_of old)) n (acts_of moves) ≡ true
    → (o : Misses conn (next_after n (acts_of moves)) before new m after)
    → IsMissed (site_of old) (number_of old) L ev (acts_of moves ++ acts_missed conn o.rest o.upgraded)

-- ---- .. and later

-- a connection that is over may still be told of this
abbrev pub passes : Event → Bool
passes (Tick secs) = true
passes Stop = true
passes (Took k count) = true
passes ev = false

-- It stays over.
abbrev pub ClosedPass : Type 0
ClosedPass = (site : Site) (c : ℕ) (L : List Item) (ev : Event) → IsClosed site c L → passes ev ≡ true → IsMissed site c L ev []
