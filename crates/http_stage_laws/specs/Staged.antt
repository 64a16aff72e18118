-- The stage that a connection holds, in the words of the model.
use Rattle.std.specs.Prelude.{ℕ, ◌≡◌, Bool, true, false, ◌||◌, nat_lt, List, [], Option, Some, None, is_some}
use Rattle.host_base.specs.declared.cause.Cause.{Cause}
use Rattle.host_base.specs.declared.request.Request.{Request}
use Rattle.host_trace.specs.Projections.{last_secs}
use Rattle.trace_model.specs.Answer.{answer}
use Rattle.trace_model.specs.Breaks.{idled}
use Rattle.trace_model.specs.Demands.{may_go_on}
use Rattle.trace_model.specs.Shuts.{cut_cause}
use Rattle.trace_model.specs.Exchange.{Exchange, all_of, reading, up_to}
use Rattle.trace_model.specs.Legs.{Leg as Started, offered_at}
use Rattle.trace_model.specs.Readings.{is_bare}
use Rattle.child_core.specs.View.{View, drops_output}
use Rattle.exchange_request.specs.Knows.{bare_of, is_looked_at, is_read, is_taken}
use Rattle.exchange_reply.specs.StepRules.{is_continued}
use Rattle.exchange_stage.specs.declared.stage.Leg.{Leg}
use Rattle.exchange_stage.specs.declared.stage.Stage.TheVariants.{Interrupted, Running, Unstarted}
use Rattle.exchange_laws.specs.Moves.{IsShort}
use Rattle.exchange_laws.specs.Rules.{Rests}
use Rattle.exchange_laws.specs.StageIs.{LostIs, StageIs}
use Rattle.conn_flags.specs.View.{is_live}
use Rattle.conn_flags.specs.Knows.{KnowsFlags}
use Rattle.child_laws.specs.Children.{KnowsChildren}
use Rattle.http_conn.specs.HttpConn.{HttpConn}
use Rattle.http_conn.specs.Kept.{StandsFor, flags_of, number_of, site_of}
use Rattle.http_conn.specs.Ready.{outcome_of_run, undrained}

-- another item than the end of its output decided the run, which keeps no output then
abbrev pub drops_of : Option View → Bool
drops_of None = false
drops_of (Some v) = drops_output v.kind v.outcome

-- Its stage is that of this exchange, for which these legs were started. `more` output was heard that the reply wasn't
-- told of, and the run keeps it, unless it keeps none.
pub record Staged (conn : HttpConn) (e : Exchange) (legs : List Started) : Type 0 where
  pub more : List ℕ
  pub kept : drops_of conn.run ≡ false → more ≡ undrained conn.run
  pub is : StageIs (site_of conn) (number_of conn) e legs conn.continued (is_looked_at conn.request) (conn.closing || conn.closes) more conn.stage

-- An answer, or a hop, may be made ready: memory was found, all that was heard for the request was looked at, 100 Continue stands where
-- it was due, and no earlier answer closes the connection.
pub record MayReady (conn : HttpConn) (e : Exchange) (legs : List Started) (stamp : Option ℕ) : Type 0 where
  pub front : StandsFor conn e
  pub staged : Staged conn e legs
  pub next : ℕ
  pub children : KnowsChildren (site_of conn) (number_of conn) e false next legs conn.run
  pub found : conn.lost ≡ false
  pub looked : is_read conn.request ≡ true
  pub unclosed : e.closed ≡ false
  pub let_on : is_continued (site_of conn) (number_of conn) e ≡ true
  pub stamp_is : stamp ≡ last_secs (all_of e)

-- .. of an answer: whether its request is bare is known where it was broken; of a reply all was written that was handed
-- out, and what came comes by itself
pub record MayAnswer (conn : HttpConn) (e : Exchange) (legs : List Started) (stamp : Option ℕ) : Type 0 where
  pub may : MayReady conn e legs stamp
  pub short : (leg : Leg) → conn.stage ≡ Running leg → outcome_of_run conn.run ≡ None → IsShort (site_of conn) (number_of conn) e legs
  pub bare : (cause : Cause) → conn.stage ≡ Interrupted cause → bare_of conn.request ≡ is_bare (reading (site_of conn) (number_of conn) e)
  pub written : (leg : Leg) → conn.stage ≡ Running leg → leg.text ≡ []
  pub apart : (leg : Leg) → conn.stage ≡ Running leg → outcome_of_run conn.run ≡ None → leg.ticked ≡ true → undrained conn.run ≡ []

-- .. of a hop: it may begin, and what came of the body is at hand
pub record MayHop (conn : HttpConn) (e : Exchange) (legs : List Started) (stamp : Option ℕ) : Type 0 where
  pub may : MayReady conn e legs stamp
  pub turn : may_go_on (number_of conn) e ≡ true
  pub offers : (hop : ℕ) (request : Request) → conn.stage ≡ Unstarted hop request
      → offered_at (site_of conn) (number_of conn) (up_to e []) hop e.items ≡ record { body = request.body; whole = nat_lt 0 hop || is_taken conn.request }

-- ---- the end of an exchange

-- The exchange may be taken for ended: no request went without a beginning for the idle time, and all that was heard was
-- looked at, or the request was read to its end.
pub record MaySettle (conn : HttpConn) (e : Exchange) (legs : List Started) : Type 0 where
  pub front : StandsFor conn e
  pub staged : Staged conn e legs
  pub early : Bool
  pub next : ℕ
  pub children : KnowsChildren (site_of conn) (number_of conn) e early next legs conn.run
  pub calm : conn.idled ≡ false
  pub looked : is_read conn.request ≡ true

-- ---- memory ran out

-- its stage is what is known then
abbrev pub Lost : HttpConn → Exchange → List Started → Type 0
Lost conn e legs = LostIs (site_of conn) (number_of conn) e legs conn.continued (conn.closing || conn.closes) conn.stage

-- ---- the end of a step

-- At its end nothing is due; its flags know the list; memory was found; and what is held of a reply that is cut off and of
-- the idle time is so.
pub record MayShut (conn : HttpConn) (e : Exchange) (legs : List Started) : Type 0 where
  pub front : StandsFor conn e
  pub staged : Staged conn e legs
  pub rests : Rests (site_of conn) (number_of conn) e legs (is_looked_at conn.request) staged.more conn.stage
  pub flags : KnowsFlags (flags_of conn) (all_of e)
  pub live : is_live (flags_of conn) ≡ true
  pub found : conn.lost ≡ false
  pub room : (flags_of conn).no_room ≡ false
  pub cut_is : conn.cut ≡ cut_cause (answer (site_of conn) (number_of conn) e)
  pub idled_is : conn.idled ≡ is_some (idled (site_of conn) (number_of conn) e)

-- .. where it is not shut, nothing ends it
pub record MayAsk (conn : HttpConn) (e : Exchange) (legs : List Started) : Type 0 where
  pub front : StandsFor conn e
  pub staged : Staged conn e legs
  pub rests : Rests (site_of conn) (number_of conn) e legs (is_looked_at conn.request) staged.more conn.stage
  pub flags : KnowsFlags (flags_of conn) (all_of e)
  pub next : ℕ
  pub children : KnowsChildren (site_of conn) (number_of conn) e false next legs conn.run
  pub found : conn.lost ≡ false
  pub looked : is_read conn.request ≡ true
