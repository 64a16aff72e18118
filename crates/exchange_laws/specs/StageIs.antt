-- What the stage of an exchange says of the model's exchange.
use Rattle.std.specs.Prelude.{ℕ, ◌≡◌, Bool, true, false, List, [], ◌∷◌, Some, None, Ok}
use Rattle.host_base.specs.declared.cause.Cause.{Cause}
use Rattle.host_base.specs.declared.cause.Cause.TheVariants.{RedirectLoop}
use Rattle.host_base.specs.declared.launch.Launch.{Launch}
use Rattle.host_base.specs.declared.request.Request.{Request}
use Rattle.host_base.specs.declared.site.Mapped.{Mapped}
use Rattle.host_base.specs.declared.site.Site.{Site}
use Rattle.host_trace.specs.declared.items.Item.{Item}
use Rattle.host_trace.specs.Decider.{failed, is_websocket}
use Rattle.host_trace.specs.Projections.{peers}
use Rattle.reply_stream.specs.declared.asked.Asked.{Asked}
use Rattle.reply_stream.specs.Writing.{Stood, nothing}
use Rattle.request_reader.specs.Request.{Bad, is_length}
use Rattle.trace_child.specs.Decided.{outcome_of}
use Rattle.trace_child.specs.Words.{implies, is_filled}
use Rattle.trace_model.specs.Answer.{interrupted, stage}
use Rattle.trace_model.specs.Breaks.{broken}
use Rattle.trace_model.specs.Closes.{closes as closes_after, is_closing_cause}
use Rattle.trace_model.specs.Demands.{may_go_on, waits_its_turn}
use Rattle.trace_model.specs.Exchange.{Exchange, all_of, continues, final, reading, up_to}
use Rattle.trace_model.specs.Launches.{launch_by}
use Rattle.trace_model.specs.Legs.{Leg, offered_at, run_of}
use Rattle.trace_model.specs.ModelLaws.{BeginsAt}
use Rattle.trace_model.specs.Places.{kind_of, place_of}
use Rattle.trace_model.specs.Readings.{is_whole}
use Rattle.trace_model.specs.Standing.{stands_whole}
use Rattle.trace_model.specs.Streams.{begins_no_sooner}
use Rattle.conn_laws.specs.Hops.{LeadsOn}
use Rattle.exchange_reply.specs.Leg.{IsMadeFor}
use Rattle.exchange_reply.specs.Reply.{KnowsReply}
use Rattle.exchange_reply.specs.StepRules.{Finishes, is_continued, wrote}
use Rattle.exchange_stage.specs.declared.stage.Leg.{Leg as Held}
use Rattle.exchange_stage.specs.declared.stage.Stage.{Stage}
use Rattle.exchange_stage.specs.declared.stage.Stage.TheVariants as At
use Rattle.exchange_laws.specs.Walked.{AtHop, HasChildren, IsLast}
use Rattle.exchange_laws.specs.Unanswered.{IsUnanswered, IsUnready}
use Rattle.exchange_laws.specs.OfRun.{IsOfRun, IsReady, is_cut_short, leg_held}

-- ---- nothing was started for it

-- `looked`: all that was heard was looked at
pub record IsReading (site : Site) (c : ℕ) (e : Exchange) (legs : List Leg) (continued looked : Bool) : Type 0 where
  pub unanswered : IsUnanswered site c e continued
  pub none : legs ≡ []
  pub no_child : HasChildren c e []
  pub unbroken : broken site c e ≡ None
  pub unready : looked ≡ true → IsUnready (reading site c e)

pub record IsRejected (site : Site) (c : ℕ) (e : Exchange) (legs : List Leg) (continued : Bool) (cause : Cause) (bare : Bool) : Type 0 where
  pub unanswered : IsUnanswered site c e continued
  pub none : legs ≡ []
  pub no_child : HasChildren c e []
  pub reads : reading site c e ≡ Bad cause bare

pub record IsInterrupted (site : Site) (c : ℕ) (e : Exchange) (legs : List Leg) (continued : Bool) (cause : Cause) : Type 0 where
  pub unanswered : IsUnanswered site c e continued
  pub none : legs ≡ []
  pub no_child : HasChildren c e []
  pub stage_is : stage site c e ≡ interrupted cause
  pub closing : is_closing_cause cause ≡ true

-- ---- on the way to a script

-- one local redirect too many
pub record IsRefused (site : Site) (c : ℕ) (e : Exchange) (legs : List Leg) (continued : Bool) (cause : Cause) : Type 0 where
  pub unanswered : IsUnanswered site c e continued
  pub loops : cause ≡ RedirectLoop
  pub leg : Leg
  pub last : IsLast site c e legs leg
  pub none_left : last.left ≡ 0
  pub location : List ℕ
  pub leads : LeadsOn site c e leg.hop leg.request leg location

pub record IsUnstarted (site : Site) (c : ℕ) (e : Exchange) (legs : List Leg) (continued : Bool) (hop : ℕ) (request : Request) : Type 0 where
  pub unanswered : IsUnanswered site c e continued
  pub left : ℕ
  pub at_hop : AtHop site c e legs left hop request
  -- a body in chunks is whole, and one of known length may grow
  pub body_stays : is_length request.framing ≡ false → at_hop.reached.request_then.body ≡ request.body

-- the script of a hop is found, and its Start is due
pub record IsStarting (site : Site) (c : ℕ) (e : Exchange) (legs : List Leg) (continued : Bool) (held : Held) (launch : Launch) (body : List ℕ) (whole : Bool) : Type 0 where
  pub unclosed : e.closed ≡ false
  pub unanswered : IsUnanswered site c e continued
  pub let_on : is_continued site c e ≡ true
  pub left : ℕ
  pub at_hop : AtHop site c e legs left held.hop held.request
  pub mapped : Mapped
  pub place : place_of site held.request ≡ Ok mapped
  pub kind : kind_of site mapped ≡ held.kind
  pub plain : is_websocket held.kind ≡ false
  pub launch_is : launch_by site (peers (all_of e)) at_hop.reached.request_then mapped ≡ Some launch
  pub offers : offered_at site c (up_to e []) held.hop e.items ≡ record { body = body; whole = whole }
  pub asked : Asked
  pub reply : KnowsReply held.reply asked [] false nothing
  pub made : IsMadeFor site c e (leg_held held 0) asked
  pub text : held.text ≡ []
  pub unticked : held.ticked ≡ false

-- ---- its script runs, or ran

-- `more` output was heard that the reply wasn't told of
pub record IsRunning (site : Site) (c : ℕ) (e : Exchange) (legs : List Leg) (continued : Bool) (more : List ℕ) (held : Held) : Type 0 where
  pub unclosed : e.closed ≡ false
  pub continues_is : continues site c e ≡ continued
  pub child : ℕ
  pub last : IsLast site c e legs (leg_held held child)
  pub asked : Asked
  pub told : List ℕ
  pub ticked : Bool
  pub stood : Stood
  pub untold : List ℕ
  pub run : IsOfRun site c e (leg_held held child) asked told ticked stood untold
  pub ready : IsReady site c e (leg_held held child) asked told ticked stood untold more held.ticked held.text held.reply
  -- where the end of the client's input cut it short the request isn't whole
  pub early : (cause : Cause) → outcome_of (run_of site c e (leg_held held child)) e.items ≡ Some (failed cause) → is_closing_cause cause ≡ true
      → is_whole (reading site c e) ≡ false

-- its run was cut short, and nothing more is written
pub record IsSilent (site : Site) (c : ℕ) (e : Exchange) (legs : List Leg) (continued : Bool) : Type 0 where
  pub unclosed : e.closed ≡ false
  pub continues_is : continues site c e ≡ continued
  pub leg : Leg
  pub last : IsLast site c e legs leg
  pub asked : Asked
  pub told : List ℕ
  pub ticked : Bool
  pub stood : Stood
  pub more : List ℕ
  pub run : IsOfRun site c e leg asked told ticked stood more
  pub cut : is_cut_short (outcome_of (run_of site c e leg) e.items) ≡ true
  -- where it failed a byte of the reply stands
  pub begun : (cause : Cause) → outcome_of (run_of site c e leg) e.items ≡ Some (failed cause) → is_filled (final site c e) ≡ true

-- ---- its whole answer

-- no script was started for it, or the last one is this leg's
abbrev pub IsWalked : Site → ℕ → Exchange → List Leg → Type 0
IsWalked site c e [] = HasChildren c e []
IsWalked site c e (first ∷ legs) = (leg : Leg) × IsLast site c e (first ∷ legs) leg

-- ---- what stands where the whole answer doesn't

-- nothing of the final answer, or what stands of the reply of a leg
abbrev pub IsLeftOver : Site → ℕ → Exchange → List Leg → Bool → Bool → Type 0
IsLeftOver site c e legs continued false = IsUnanswered site c e continued × IsWalked site c e legs
IsLeftOver site c e legs continued true =
    (leg : Leg) × (asked : Asked) × (told : List ℕ) × (ticked : Bool) × (stood : Stood) × (more : List ℕ)
    × IsLast site c e legs leg × IsOfRun site c e leg asked told ticked stood more × (e.closed ≡ false)

-- ---- the end

-- the first byte of its answer was written here, and no sooner than it was due
pub record HasBegun (site : Site) (c : ℕ) (e : Exchange) : Type 0 where
  pub front : List Item
  pub begins : BeginsAt site c e front
  pub no_sooner : begins_no_sooner site c e ≡ true

-- with this text the whole answer stands; `begun`: a byte of it may stand before
pub record IsFinishing (site : Site) (c : ℕ) (e : Exchange) (legs : List Leg) (continued : Bool) (text : List ℕ) (closes : Bool) : Type 0 where
  pub unclosed : e.closed ≡ false
  pub walked : IsWalked site c e legs
  pub let_on : is_continued site c e ≡ true
  pub continues_is : continues site c e ≡ continued
  pub begun_then : Bool
  pub left_over : IsLeftOver site c e legs continued begun_then
  pub finishes : Finishes site c e text
  pub begun : HasBegun site c (wrote c e text)
  pub closes_is : closes_after site c (wrote c e text) ≡ closes
  pub turn : implies (waits_its_turn (stage site c e)) (may_go_on c e) ≡ true

pub record IsAnswered (site : Site) (c : ℕ) (e : Exchange) (legs : List Leg) (continued closing : Bool) : Type 0 where
  pub unclosed : e.closed ≡ false
  pub continues_is : continues site c e ≡ continued
  pub walked : IsWalked site c e legs
  pub whole : stands_whole site c e ≡ true
  pub begun : HasBegun site c e
  pub closes_is : closes_after site c e ≡ closing

-- ---- all stages

-- `legs` are the scripts that were started, `continued` says that 100 Continue was written, `looked` that all that was
-- heard was looked at, and `closing` that an answer that closes the connection stands; `more` is the output that was
-- heard and not drained.
abbrev pub StageIs : Site → ℕ → Exchange → List Leg → Bool → Bool → Bool → List ℕ → Stage → Type 0
StageIs site c e legs continued looked closing more At.Reading = IsReading site c e legs continued looked × (e.closed ≡ closing)
StageIs site c e legs continued looked closing more (At.Rejected cause bare) = IsRejected site c e legs continued cause bare × (e.closed ≡ closing)
StageIs site c e legs continued looked closing more (At.Interrupted cause) = IsInterrupted site c e legs continued cause × (e.closed ≡ closing)
StageIs site c e legs continued looked closing more (At.Refused cause) = IsRefused site c e legs continued cause × (e.closed ≡ closing)
StageIs site c e legs continued looked closing more (At.Unstarted hop request) = IsUnstarted site c e legs continued hop request × (e.closed ≡ closing)
StageIs site c e legs continued looked closing more (At.Starting held launch body whole) =
    IsStarting site c e legs continued held launch body whole × (e.closed ≡ closing)
StageIs site c e legs continued looked closing more (At.Running held) = IsRunning site c e legs continued more held × (e.closed ≡ closing)
StageIs site c e legs continued looked closing more (At.Finishing text closes) = IsFinishing site c e legs continued text closes × (e.closed ≡ closing)
StageIs site c e legs continued looked closing more At.Answered = IsAnswered site c e legs continued closing
StageIs site c e legs continued looked closing more At.Silent = IsSilent site c e legs continued × (e.closed ≡ closing)

-- ---- memory ran out

-- Nothing more is written, and the whole answer doesn't stand.
pub record IsLost (site : Site) (c : ℕ) (e : Exchange) (legs : List Leg) (continued : Bool) : Type 0 where
  pub begun : Bool
  pub left_over : IsLeftOver site c e legs continued begun
  pub unfinished : stands_whole site c e ≡ false

-- what is known of the stage then
abbrev pub LostIs : Site → ℕ → Exchange → List Leg → Bool → Bool → Stage → Type 0
LostIs site c e legs continued closing At.Answered = IsAnswered site c e legs continued closing
LostIs site c e legs continued closing _ = IsLost site c e legs continued
