-- What a part of a step makes of the stage of an exchange where it gives no act.
use Rattle.std.specs.Prelude.{ℕ, suc, ◌≡◌, ◌≤◌, ◌<◌, ◌^◌, Bool, true, false, not, ◌&&◌, ◌||◌, List, [], ◌++◌, length, Some, None, Ok, Err}
use Rattle.host_base.specs.declared.cause.Cause.{Cause}
use Rattle.host_base.specs.declared.cause.Cause.TheVariants.{RedirectLoop}
use Rattle.host_base.specs.declared.launch.Launch.{Launch}
use Rattle.host_base.specs.declared.request.Request.{Request}
use Rattle.host_base.specs.declared.site.Mapped.{Mapped}
use Rattle.host_base.specs.declared.site.ScriptKind.{ScriptKind}
use Rattle.host_base.specs.declared.site.ScriptKind.TheVariants.{WebSocket}
use Rattle.host_base.specs.declared.site.Site.{Site}
use Rattle.host_trace.specs.Decider.{Outcome, derived, failed, unanswered, is_websocket}
use Rattle.host_trace.specs.Projections.{child_out, last_secs, peers}
use Rattle.reply_kinds.specs.Derived.{is_header_whole}
use Rattle.reply_stream.specs.declared.asked.Asked.{Asked}
use Rattle.reply_stream.specs.declared.stream.Last.{Last}
use Rattle.reply_stream.specs.declared.stream.Last.TheVariants as Ended
use Rattle.reply_stream.specs.Writing.{Stood, nothing, is_begun}
use Rattle.request_reader.specs.Request.{Bad}
use Rattle.trace_child.specs.Decided.{outcome_of}
use Rattle.trace_model.specs.Answer.{request_of_hop}
use Rattle.trace_model.specs.Closes.{is_nph, persists_by}
use Rattle.trace_model.specs.Demands.{may_go_on}
use Rattle.trace_model.specs.Exchange.{Exchange, all_of, reading, up_to}
use Rattle.trace_model.specs.Launches.{launch_by}
use Rattle.trace_model.specs.Legs.{Leg, offered_at, run_of}
use Rattle.trace_model.specs.Places.{kind_of, origins_of, place_of}
use Rattle.trace_model.specs.Readings.{headed, is_bare, is_head_request, is_whole, startable}
use Rattle.trace_model.specs.Standing.{stands_whole}
use Rattle.ws_handshake.specs.Handshake.{handshake}
use Rattle.exchange_reply.specs.declared.reply.LegReply.{LegReply}
use Rattle.exchange_reply.specs.Reply.{Gives, KnowsReply, MayEndWithout, SpellsFault, closes_of}
use Rattle.exchange_reply.specs.Standings.{Ends}
use Rattle.exchange_reply.specs.StepRules.{is_continued}
use Rattle.exchange_stage.specs.declared.stage.Leg.{Leg as Held}
use Rattle.exchange_stage.specs.declared.stage.Stage.{Stage}
use Rattle.exchange_stage.specs.declared.stage.Stage.TheVariants as At
use Rattle.exchange_laws.specs.Walked.{IsLast}
use Rattle.exchange_laws.specs.Unanswered.{IsUnready}
use Rattle.exchange_laws.specs.StageIs.{IsLost, StageIs}

-- ---- a look at what was heard

pub record LooksFind (site : Site) (c : ℕ) (e : Exchange) (legs : List Leg) (continued closing : Bool) (more : List ℕ) : Type 0 where
  pub none : IsUnready (reading site c e) → StageIs site c e legs continued true closing more At.Reading
  pub ready : (request : Request) → startable (reading site c e) ≡ Some request → StageIs site c e legs continued true closing more (At.Unstarted 0 request)
  pub refused : (cause : Cause) (bare : Bool) → reading site c e ≡ Bad cause bare → StageIs site c e legs continued true closing more (At.Rejected cause bare)

abbrev pub LooksMove : Type 0
LooksMove = (site : Site) (c : ℕ) (e : Exchange) (legs : List Leg) (continued looked closing : Bool) (more : List ℕ)
    → StageIs site c e legs continued looked closing more At.Reading → LooksFind site c e legs continued closing more

-- ---- the host's own reply

-- an answer that begins now closes the connection, as far as the request says (RFC 9112 9.3 and 9.6)
abbrev pub closes_early : Site → ℕ → Exchange → Bool
closes_early site c e = not (persists_by (headed (reading site c e)) && is_whole (reading site c e))

-- .. or because its script is nph
abbrev pub closes_of_kind : Site → ℕ → Exchange → ScriptKind → Bool
closes_of_kind site c e kind = is_nph kind || closes_early site c e

-- this is the text of the reply for a cause
abbrev pub IsFault : Site → ℕ → Exchange → Cause → Bool → Bool → List ℕ → Type 0
IsFault site c e cause bare closes text = SpellsFault cause bare closes (last_secs (all_of e)) text

-- Where an answer may begin, a refused or broken request is answered.
pub record FaultsMove (site : Site) (c : ℕ) (e : Exchange) (legs : List Leg) (continued looked closing : Bool) (more text : List ℕ) : Type 0 where
  pub rejected : (cause : Cause) (bare : Bool) → StageIs site c e legs continued looked closing more (At.Rejected cause bare)
      → IsFault site c e cause bare true text → StageIs site c e legs continued looked closing more (At.Finishing text true)
  pub interrupted : (cause : Cause) → StageIs site c e legs continued looked closing more (At.Interrupted cause)
      → IsFault site c e cause (is_bare (reading site c e)) true text → StageIs site c e legs continued looked closing more (At.Finishing text true)
  pub refused : (cause : Cause) → may_go_on c e ≡ true → StageIs site c e legs continued looked closing more (At.Refused cause)
      → IsFault site c e cause (is_bare (reading site c e)) (closes_early site c e) text
      → StageIs site c e legs continued looked closing more (At.Finishing text (closes_early site c e))
  pub no_script : (hop : ℕ) (request : Request) (cause : Cause) → may_go_on c e ≡ true
      → StageIs site c e legs continued looked closing more (At.Unstarted hop request) → place_of site request ≡ Err cause
      → IsFault site c e cause (is_bare (reading site c e)) (closes_early site c e) text
      → StageIs site c e legs continued looked closing more (At.Finishing text (closes_early site c e))
  pub no_handshake : (hop : ℕ) (request : Request) (mapped : Mapped) (cause : Cause) → may_go_on c e ≡ true
      → StageIs site c e legs continued looked closing more (At.Unstarted hop request) → place_of site request ≡ Ok mapped
      → kind_of site mapped ≡ WebSocket → handshake request (origins_of site mapped) ≡ Err cause
      → IsFault site c e cause (is_bare (reading site c e)) (closes_early site c e) text
      → StageIs site c e legs continued looked closing more (At.Finishing text (closes_early site c e))

abbrev pub FaultsAreReady : Type 0
FaultsAreReady = (site : Site) (c : ℕ) (e : Exchange) (legs : List Leg) (continued looked closing : Bool) (more text : List ℕ)
    → is_continued site c e ≡ true → e.closed ≡ false → FaultsMove site c e legs continued looked closing more text

-- ---- a script is found

-- what the code holds once the script of a hop was found: the reply is made as the request asks
pub record IsHeld (held : Held) (hop : ℕ) (kind : ScriptKind) (request : Request) (asked : Asked) : Type 0 where
  pub hop_is : held.hop ≡ hop
  pub kind_is : held.kind ≡ kind
  pub request_is : held.request ≡ record request { body = [] }
  pub text : held.text ≡ []
  pub unticked : held.ticked ≡ false
  pub asks_kind : asked.kind ≡ kind
  pub version : asked.version ≡ request.version
  pub head_only : asked.head_only ≡ is_head_request (Some request)
  pub reply : KnowsReply held.reply asked [] false nothing

abbrev pub PlacesAreFound : Type 0
PlacesAreFound = (site : Site) (c : ℕ) (e : Exchange) (legs : List Leg) (continued looked closing : Bool) (more : List ℕ) (hop : ℕ) (request : Request)
    (mapped : Mapped) (held : Held) (asked : Asked) (launch : Launch) (body : List ℕ) (whole : Bool)
    → StageIs site c e legs continued looked closing more (At.Unstarted hop request) → is_continued site c e ≡ true → e.closed ≡ false
    → place_of site request ≡ Ok mapped → is_websocket (kind_of site mapped) ≡ false → IsHeld held hop (kind_of site mapped) request asked
    → launch_by site (peers (all_of e)) request mapped ≡ Some launch
    → offered_at site c (up_to e []) hop e.items ≡ record { body = body; whole = whole }
    → StageIs site c e legs continued looked closing more (At.Starting held launch body whole)

-- ---- the run goes on

-- the output of the last leg is as long as a number may be
abbrev pub IsShort : Site → ℕ → Exchange → List Leg → Type 0
IsShort site c e legs = (leg : Leg) → IsLast site c e legs leg → length (child_out e.items leg.child) < 2 ^ 64

-- nothing decided the run of the last leg
abbrev pub GoesOn : Site → ℕ → Exchange → List Leg → Type 0
GoesOn site c e legs = (leg : Leg) → IsLast site c e legs leg → outcome_of (run_of site c e leg) e.items ≡ None

abbrev pub Comes : Site → ℕ → Exchange → List Leg → Outcome → Type 0
Comes site c e legs outcome = (leg : Leg) → IsLast site c e legs leg → outcome_of (run_of site c e leg) e.items ≡ Some outcome

-- what the reply gives for this output, or for a Tick; what it knew before is any that it knew
abbrev pub HearsPiece : Site → ℕ → Exchange → Held → List ℕ → List ℕ → LegReply → Type 0
HearsPiece site c e held piece text reply =
    (asked : Asked) (told : List ℕ) (ticked : Bool) (stood : Stood) → KnowsReply held.reply asked told ticked stood
    → Gives asked (told ++ piece) ticked (closes_of_kind site c e held.kind) (last_secs (all_of e)) stood text reply

abbrev pub HearsTick : Site → ℕ → Exchange → Held → List ℕ → LegReply → Type 0
HearsTick site c e held text reply =
    (asked : Asked) (told : List ℕ) (ticked : Bool) (stood : Stood) → KnowsReply held.reply asked told ticked stood
    → Gives asked told (ticked || is_header_whole asked.kind told) (closes_of_kind site c e held.kind) (last_secs (all_of e)) stood text reply

pub record TellsMove (site : Site) (c : ℕ) (e : Exchange) (legs : List Leg) (continued looked closing : Bool) (more : List ℕ) (held : Held) (text : List ℕ) (reply : LegReply) : Type 0 where
  pub piece : held.ticked ≡ false → HearsPiece site c e held more text reply
      → StageIs site c e legs continued looked closing [] (At.Running (record held { reply = reply; text = text; ticked = false }))
  pub tick : held.ticked ≡ true → more ≡ [] → HearsTick site c e held text reply
      → StageIs site c e legs continued looked closing [] (At.Running (record held { reply = reply; text = text; ticked = false }))

-- While the run goes on its reply is told what came, and hands out what is to be written now.
abbrev pub TellsAreHanded : Type 0
TellsAreHanded = (site : Site) (c : ℕ) (e : Exchange) (legs : List Leg) (continued looked closing : Bool) (more : List ℕ) (held : Held) (text : List ℕ) (reply : LegReply)
    → StageIs site c e legs continued looked closing more (At.Running held) → held.text ≡ [] → GoesOn site c e legs → IsShort site c e legs
    → TellsMove site c e legs continued looked closing more held text reply

-- ---- its output has ended

-- what the reply comes to at its end
abbrev pub EndsAs : Site → ℕ → Exchange → Held → Last → Type 0
EndsAs site c e held last =
    (asked : Asked) (told : List ℕ) (ticked : Bool) (stood : Stood) → KnowsReply held.reply asked told ticked stood
    → Ends asked told (closes_of_kind site c e held.kind) (last_secs (all_of e)) stood last

-- whether the connection closes after it
abbrev pub ClosesBy : Site → ℕ → Exchange → Held → Bool → Type 0
ClosesBy site c e held closes =
    (asked : Asked) (told : List ℕ) (ticked : Bool) (stood : Stood) → KnowsReply held.reply asked told ticked stood
    → closes ≡ closes_of stood (closes_of_kind site c e held.kind)

pub record EndsMove (site : Site) (c : ℕ) (e : Exchange) (legs : List Leg) (continued looked closing : Bool) (more : List ℕ) (held : Held) : Type 0 where
  pub written : (text : List ℕ) (closes : Bool) → EndsAs site c e held (Ended.Written text) → ClosesBy site c e held closes
      → StageIs site c e legs continued looked closing more (At.Finishing text closes)
  pub refused : (cause : Cause) (text : List ℕ) → EndsAs site c e held (Ended.Bad cause)
      → IsFault site c e cause (is_head_request (Some held.request)) (closes_of_kind site c e held.kind) text
      → StageIs site c e legs continued looked closing more (At.Finishing text (closes_of_kind site c e held.kind))
  -- a local redirect
  pub leads_on : (location : List ℕ) → EndsAs site c e held (Ended.Hop location) → held.hop < site.limits.redirects
      → StageIs site c e legs continued looked closing more (At.Unstarted (suc held.hop) (request_of_hop held.request location))
  pub loops : (location : List ℕ) → EndsAs site c e held (Ended.Hop location) → site.limits.redirects ≤ held.hop
      → StageIs site c e legs continued looked closing more (At.Refused RedirectLoop)
  -- memory ran out
  pub lacks : ((asked : Asked) (told : List ℕ) (ticked : Bool) (stood : Stood) → KnowsReply held.reply asked told ticked stood → MayEndWithout asked told stood)
      → IsLost site c e legs continued

-- At the end of the output the answer is ready, or the next hop is.
abbrev pub EndsAreReady : Type 0
EndsAreReady = (site : Site) (c : ℕ) (e : Exchange) (legs : List Leg) (continued looked closing : Bool) (more : List ℕ) (held : Held)
    → StageIs site c e legs continued looked closing more (At.Running held) → held.text ≡ [] → Comes site c e legs derived
    → EndsMove site c e legs continued looked closing more held

-- ---- its run was cut short

abbrev pub HasBegunReply : Held → Bool → Type 0
HasBegunReply held begun =
    (asked : Asked) (told : List ℕ) (ticked : Bool) (stood : Stood) → KnowsReply held.reply asked told ticked stood → begun ≡ is_begun stood

-- the text of the host's own reply in place of the one that the script was started for
abbrev pub FaultsFor : Site → ℕ → Exchange → Held → Cause → List ℕ → Type 0
FaultsFor site c e held cause text =
    (asked : Asked) (told : List ℕ) (ticked : Bool) (stood : Stood) → KnowsReply held.reply asked told ticked stood
    → IsFault site c e cause asked.head_only (closes_of_kind site c e held.kind) text

pub record CutsMove (site : Site) (c : ℕ) (e : Exchange) (legs : List Leg) (continued looked closing : Bool) (more : List ℕ) (held : Held) : Type 0 where
  -- a reply that had begun can't be finished
  pub begun : (cause : Cause) → Comes site c e legs (failed cause) → HasBegunReply held true → StageIs site c e legs continued looked closing more At.Silent
  pub unbegun : (cause : Cause) (text : List ℕ) → Comes site c e legs (failed cause) → HasBegunReply held false
      → FaultsFor site c e held cause text → StageIs site c e legs continued looked closing more (At.Finishing text (closes_of_kind site c e held.kind))
  -- nobody waits for it
  pub silent : Comes site c e legs unanswered → StageIs site c e legs continued looked closing more At.Silent

abbrev pub CutsAreReady : Type 0
CutsAreReady = (site : Site) (c : ℕ) (e : Exchange) (legs : List Leg) (continued looked closing : Bool) (more : List ℕ) (held : Held)
    → StageIs site c e legs continued looked closing more (At.Running held) → held.text ≡ [] → CutsMove site c e legs continued looked closing more held

-- ---- memory runs out

-- What is known where memory runs out at a stage at which the whole answer doesn't stand.
abbrev pub LossesAreKnown : Type 0
LossesAreKnown = (site : Site) (c : ℕ) (e : Exchange) (legs : List Leg) (continued looked closing : Bool) (more : List ℕ) (s : Stage)
    → StageIs site c e legs continued looked closing more s → stands_whole site c e ≡ false → IsLost site c e legs continued
