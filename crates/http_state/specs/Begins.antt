-- What is made ready of a hop.
use Rattle.std.specs.Prelude.{ℕ, ◌≡◌, Bool, true, false, not, ◌&&◌, ◌||◌, nat_lt, List, [], Option, Some, None, option_map, Result, Ok, Err}
use Rattle.host_base.specs.declared.cause.Cause.{Cause}
use Rattle.host_base.specs.declared.launch.Launch.{Launch}
use Rattle.host_base.specs.declared.launch.Peer.{Peer}
use Rattle.host_base.specs.declared.request.Request.{Request}
use Rattle.host_base.specs.declared.site.Mapped.{Mapped}
use Rattle.host_base.specs.declared.site.ScriptKind.{ScriptKind}
use Rattle.host_base.specs.declared.site.ScriptKind.TheVariants.{Cgi, Nph, WebSocket}
use Rattle.std.specs.Str.{is_utf8}
use Rattle.meta_variables.specs.Launch.{is_text_or_none, launch_of}
use Rattle.ws_handshake.specs.Handshake.{handshake, accept_text}
use Rattle.reply_stream.specs.declared.asked.Asked.{Asked}
use Rattle.reply_stream.specs.Writing.{nothing}
use Rattle.trace_model.specs.Closes.{persists_by}
use Rattle.trace_model.specs.Places.{kind_of, origins_of, place_of}
use Rattle.trace_model.specs.Readings.{headed, is_head_request, is_whole, startable}
use Rattle.exchange_request.specs.declared.found.Manner.{Manner}
use Rattle.exchange_request.specs.Manner.{manner_of}
use Rattle.exchange_request.specs.Knows.{is_taken, reading_of, bare_of}
use Rattle.exchange_reply.specs.Reply.{KnowsReply}
use Rattle.exchange_stage.specs.declared.stage.Leg.{Leg}
use Rattle.exchange_stage.specs.declared.stage.Stage.{Stage}
use Rattle.exchange_stage.specs.declared.stage.Stage.TheVariants.{Interrupted, Refused, Rejected, Running, Silent, Starting, Unstarted}
use Rattle.child_core.specs.declared.ending.Outcome.{Outcome}
use Rattle.child_core.specs.declared.ending.Outcome.TheVariants.{Failed, Output}
use Rattle.http_state.specs.declared.conn.HttpConn.{HttpConn}
use Rattle.http_state.specs.Kept.{peer_of, site_of}
use Rattle.http_state.specs.Ready.{Breaks, Concludes, Faults, ReadsAll, Tells, outcome_of_run}
use Rattle.http_state.specs.declared.begin.Welcome.{Welcome}

-- ---- a refusal

abbrev pub bare_by : Option Manner → Bool
bare_by None = false
bare_by (Some manner) = manner.head_only

-- the reply for a cause that was found on the way to a script is ready
pub record Refuses (cause : Cause) (stamp : Option ℕ) (old new : HttpConn) : Type 0 where
  pub bare : Bool
  pub closes : Bool
  pub bare_is : (bytes : List ℕ) → ReadsAll old bytes → bare ≡ bare_by (option_map manner_of (startable (reading_of old.request bytes)))
  pub closes_is : (bytes : List ℕ) → ReadsAll old bytes
      → closes ≡ not (persists_by (headed (reading_of old.request bytes)) && is_whole (reading_of old.request bytes))
  pub fault : Faults cause bare closes stamp old new

-- ---- a Start

abbrev pub asked_of : ScriptKind → Request → Asked
asked_of kind request = record { kind = kind; version = request.version; head_only = is_head_request (Some request) }

pub record IsLegOf (hop : ℕ) (kind : ScriptKind) (request : Request) (leg : Leg) : Type 0 where
  pub hop_is : leg.hop ≡ hop
  pub kind_is : leg.kind ≡ kind
  pub request_is : leg.request ≡ request
  pub text : leg.text ≡ []
  pub unticked : leg.ticked ≡ false
  pub reply : KnowsReply leg.reply (asked_of kind request) [] false nothing

-- the method, the query and the host are texts
abbrev pub has_texts : Request → Bool
has_texts request = is_utf8 request.method && is_text_or_none request.target.query && is_text_or_none request.target.host

-- the launch of a script, for the client of the connection
pub record Launches (conn : HttpConn) (request : Request) (mapped : Mapped) (launch : Launch) : Type 0 where
  pub peer : Peer
  pub peer_is : peer_of conn ≡ Some peer
  pub launch_is : launch_of (site_of conn) peer request mapped ≡ Some launch

-- The Start of this script is ready. Of its input, what came is there, and all of it where the request is whole or none
-- goes to it.
pub record Starts (hop : ℕ) (kind : ScriptKind) (request : Request) (mapped : Mapped) (old new : HttpConn) : Type 0 where
  pub leg : Leg
  pub launch : Launch
  pub leg_is : IsLegOf hop kind (record request { body = [] }) leg
  pub launch_is : Launches old request mapped launch
  pub is : new ≡ record old { stage = Starting leg launch request.body (nat_lt 0 hop || is_taken old.request) }

-- ---- by what is found

abbrev pub ScriptBy : ScriptKind → ℕ → Request → Mapped → Option ℕ → HttpConn → HttpConn → Type 0
ScriptBy Cgi hop request mapped stamp old new = Starts hop Cgi request mapped old new
ScriptBy Nph hop request mapped stamp old new = Starts hop Nph request mapped old new
ScriptBy WebSocket hop request mapped stamp old new =
    (cause : Cause) × (handshake request (origins_of (site_of old) mapped) ≡ Err cause) × Refuses cause stamp old new

pub record Finds (hop : ℕ) (request : Request) (mapped : Mapped) (stamp : Option ℕ) (old new : HttpConn) : Type 0 where
  pub kind : ScriptKind
  pub kind_is : kind_of (site_of old) mapped ≡ kind
  pub by : ScriptBy kind hop request mapped stamp old new

abbrev pub PlaceBy : Result Mapped Cause → ℕ → Request → Option ℕ → HttpConn → HttpConn → Type 0
PlaceBy (Ok mapped) hop request stamp old new = Finds hop request mapped stamp old new
PlaceBy (Err cause) hop request stamp old new = Refuses cause stamp old new

pub record Places (hop : ℕ) (request : Request) (stamp : Option ℕ) (old new : HttpConn) : Type 0 where
  pub answer : Result Mapped Cause
  pub place : place_of (site_of old) request ≡ answer
  pub by : PlaceBy answer hop request stamp old new

-- ---- by the stage, which was taken out

abbrev pub silenced : HttpConn → HttpConn
silenced conn = record conn { stage = Silent }

abbrev pub ReadiesHop : Stage → Option ℕ → HttpConn → HttpConn → Type 0
ReadiesHop (Refused cause) stamp old new = Refuses cause stamp (silenced old) new
ReadiesHop (Unstarted hop request) stamp old new = Places hop request stamp (silenced old) new
ReadiesHop _ stamp old new = new ≡ old

-- .. of an answer: by what decided the run
abbrev pub ByOutcome : Option Outcome → Leg → Option ℕ → HttpConn → HttpConn → Type 0
ByOutcome None leg stamp old new = Tells leg stamp old new
ByOutcome (Some Output) leg stamp old new = Concludes leg stamp old new
ByOutcome (Some (Failed cause)) leg stamp old new = Breaks leg cause stamp old new
ByOutcome _ leg stamp old new = new ≡ old

abbrev pub ReadiesAnswer : Stage → Option ℕ → HttpConn → HttpConn → Type 0
ReadiesAnswer (Rejected cause bare) stamp old new = Faults cause bare true stamp (silenced old) new
ReadiesAnswer (Interrupted cause) stamp old new = Faults cause (bare_of old.request) true stamp (silenced old) new
ReadiesAnswer (Running leg) stamp old new = ByOutcome (outcome_of_run old.run) leg stamp (silenced old) new
ReadiesAnswer _ stamp old new = new ≡ old

-- ---- a handshake that is accepted (RFC 6455 4.2.2)

-- The script of the request is a WebSocket's, and its handshake is accepted: this is to be written and started for it. The
-- request waits on.
pub record IsWelcome (hop : ℕ) (request : Request) (mapped : Mapped) (welcome : Welcome) (old new : HttpConn) : Type 0 where
  pub value : List ℕ
  pub kind : kind_of (site_of old) mapped ≡ WebSocket
  pub taken : handshake request (origins_of (site_of old) mapped) ≡ Ok value
  pub text_is : welcome.text ≡ accept_text value
  pub launches : Launches old request mapped welcome.launch
  pub is : new ≡ record old { stage = Unstarted hop request }

-- .. and its target names that script
pub record PlacesWelcome (hop : ℕ) (request : Request) (welcome : Welcome) (old new : HttpConn) : Type 0 where
  pub mapped : Mapped
  pub place : place_of (site_of old) request ≡ Ok mapped
  pub is_welcome : IsWelcome hop request mapped welcome old new

-- .. where the stage is taken out and put back
pub record ReadiesWelcome (welcome : Welcome) (old new : HttpConn) : Type 0 where
  pub hop : ℕ
  pub request : Request
  pub stage_is : old.stage ≡ Unstarted hop request
  pub places : PlacesWelcome hop request welcome (silenced old) new
