-- A handshake that is accepted (RFC 6455 4.2.2), up to the Start of the WebSocket's program.
use Rattle.std.specs.Prelude.{ℕ, ◌≡◌, ◌≤◌, Bool, true, false, List, [], ◌∷◌, ◌++◌, Option, Some, None, Ok, Err}
use Rattle.std.specs.List.{list_any}
use Rattle.host_base.specs.declared.cause.Cause.TheVariants.{UpgradeNeeded}
use Rattle.host_base.specs.declared.launch.Launch.{Launch}
use Rattle.host_base.specs.declared.request.Request.{Request}
use Rattle.host_base.specs.declared.request.Target.{Target}
use Rattle.host_base.specs.declared.site.Mapped.{Mapped}
use Rattle.host_base.specs.declared.site.ScriptKind.TheVariants.{WebSocket}
use Rattle.host_base.specs.declared.site.Site.{Site}
use Rattle.host_trace.specs.declared.items.Act.TheVariants.{Start, Upgrade, Write}
use Rattle.host_trace.specs.declared.items.Item.{Item}
use Rattle.host_trace.specs.declared.items.Item.TheVariants.{Out}
use Rattle.host_trace.specs.Kinds.{bytes_heard, bytes_written}
use Rattle.host_trace.specs.Projections.{children_of, client_wanted, peers, shut, stopped, upgraded}
use Rattle.request_reader.specs.Request.{Whole, redirected}
use Rattle.ws_handshake.specs.Handshake.{accept_text, handshake}
use Rattle.trace_model.specs.Answer.{welcomed, legs as legs_of, stage}
use Rattle.trace_model.specs.Answers.{begins_in_turn}
use Rattle.trace_model.specs.Breaks.{broken, idled}
use Rattle.trace_model.specs.Demands.{has_room, may_go_on}
use Rattle.trace_model.specs.Exchange.{Exchange, all_of, continue_part, continues, pushed, reading, written}
use Rattle.trace_model.specs.Exchanges.{left_over}
use Rattle.trace_model.specs.Launches.{is_right_start, launch_by}
use Rattle.trace_model.specs.Legs.{Leg, leg_of}
use Rattle.trace_model.specs.Places.{kind_of, origins_of, place_of}
use Rattle.trace_model.specs.Talks.{is_right_talk_act}
use Rattle.exchange_reply.specs.StepRules.{is_continued}
use Rattle.exchange_stage.specs.declared.stage.Stage.TheVariants as At
use Rattle.exchange_laws.specs.StageIs.{HasBegun, StageIs}
use Rattle.exchange_laws.specs.Unanswered.{IsUnanswered}
use Rattle.exchange_laws.specs.Walked.{HasChildren, IsNew}
use Rattle.talk_core.specs.Laws.{is_of_talk}
use Rattle.talk_laws.specs.Http.{AskedInTurn, SpeaksHttp, is_parting}

-- ---- the request

-- it is whole, nothing broke it, its script is a WebSocket's, and its handshake gives this accept value
pub record IsAccepted (site : Site) (c : ℕ) (e : Exchange) (value : List ℕ) (request : Request) (mapped : Mapped) : Type 0 where
  pub used : ℕ
  pub due : Bool
  pub reads : reading site c e ≡ Whole request used due
  pub unbroken : broken site c e ≡ None
  pub place : place_of site request ≡ Ok mapped
  pub kind : kind_of site mapped ≡ WebSocket
  pub taken : handshake request (origins_of site mapped) ≡ Ok value

-- A local redirect asks for no WebSocket: its handshake is refused.
abbrev pub RedirectsAskNoWebSocket : Type 0
RedirectsAskNoWebSocket = (request : Request) (target : Target) (origins : Option (List (List ℕ)))
    → handshake (redirected request target) origins ≡ Err UpgradeNeeded

-- ---- before the accept text

-- Nothing is written for it but 100 Continue where that was due, and nothing started. This text is to be written, and
-- then this launch started.
pub record IsWelcoming (site : Site) (c : ℕ) (e : Exchange) (legs : List Leg) (continued : Bool) (text : List ℕ) (launch : Launch) : Type 0 where
  pub value : List ℕ
  pub request : Request
  pub mapped : Mapped
  pub accepted : IsAccepted site c e value request mapped
  pub text_is : text ≡ accept_text value
  pub launch_is : launch_by site (peers (all_of e)) request mapped ≡ Some launch
  pub unclosed : e.closed ≡ false
  pub unanswered : IsUnanswered site c e continued
  pub let_on : is_continued site c e ≡ true
  pub calm : idled site c e ≡ None
  pub going : stopped (all_of e) ≡ false
  pub unshut : shut (all_of e) c ≡ false
  pub staying : list_any (is_parting c) (all_of e) ≡ false
  pub http : SpeaksHttp site c e
  pub none : legs ≡ []
  pub no_child : HasChildren c e []
  pub new : IsNew c e 0

-- The handshake of a request for which no script was started is accepted: its script is a WebSocket's, and it is what the
-- script may be started with.
abbrev pub HandshakesAreWelcome : Type 0
HandshakesAreWelcome = (site : Site) (c : ℕ) (e : Exchange) (legs : List Leg) (continued looked closing : Bool) (more : List ℕ) (request : Request) (mapped : Mapped)
    (value : List ℕ) (launch : Launch) → StageIs site c e legs continued looked closing more (At.Unstarted 0 request) → is_continued site c e ≡ true → e.closed ≡ false
    → place_of site request ≡ Ok mapped → kind_of site mapped ≡ WebSocket → handshake request (origins_of site mapped) ≡ Ok value
    → launch_by site (peers (all_of e)) request mapped ≡ Some launch → idled site c e ≡ None → stopped (all_of e) ≡ false → shut (all_of e) c ≡ false
    → list_any (is_parting c) (all_of e) ≡ false → SpeaksHttp site c e → IsWelcoming site c e legs continued (accept_text value) launch

-- ---- once the accept text stands

-- The accept text stands, after 100 Continue where that was due, and no byte of another answer.
pub record IsGreeted (site : Site) (c : ℕ) (e : Exchange) (continued : Bool) (value : List ℕ) (request : Request) (mapped : Mapped) : Type 0 where
  pub accepted : IsAccepted site c e value request mapped
  pub unclosed : e.closed ≡ false
  pub continues_is : continues site c e ≡ continued
  pub let_on : is_continued site c e ≡ true
  pub written_is : written c e ≡ continue_part site c e ++ accept_text value
  pub begun : HasBegun site c e

-- The model has the handshake for accepted, and its children as legs.
pub record WelcomesAre (site : Site) (c : ℕ) (e : Exchange) (value : List ℕ) (request : Request) (mapped : Mapped) : Type 0 where
  pub stage_is : stage site c e ≡ welcomed value request mapped
  pub none : children_of e.items c e.number 0 ≡ [] → legs_of site c e ≡ []
  pub one : (k : ℕ) → children_of e.items c e.number 0 ≡ k ∷ [] → legs_of site c e ≡ leg_of 0 WebSocket request k ∷ []

abbrev pub AcceptedAreWelcomed : Type 0
AcceptedAreWelcomed = (site : Site) (c : ℕ) (e : Exchange) (value : List ℕ) (request : Request) (mapped : Mapped)
    → IsAccepted site c e value request mapped → WelcomesAre site c e value request mapped

-- An item that brings no byte, writes none, and breaks no request, leaves that.
abbrev pub ItemsLeaveGreeted : Type 0
ItemsLeaveGreeted = (site : Site) (c : ℕ) (e : Exchange) (x : Item) (continued : Bool) (value : List ℕ) (request : Request) (mapped : Mapped) → 2 ≤ site.limits.head
    → bytes_heard c x ≡ [] → bytes_written c x ≡ [] → broken site c (pushed e x) ≡ None
    → IsGreeted site c e continued value request mapped → IsGreeted site c (pushed e x) continued value request mapped

-- Nothing is started yet; `spoken`: the Upgrade stands, and then nothing waits to be sent.
pub record IsOpening (site : Site) (c : ℕ) (e : Exchange) (legs : List Leg) (continued : Bool) (launch : Launch) (spoken : Bool) : Type 0 where
  pub value : List ℕ
  pub request : Request
  pub mapped : Mapped
  pub greeted : IsGreeted site c e continued value request mapped
  pub launch_is : launch_by site (peers (all_of e)) request mapped ≡ Some launch
  pub calm : idled site c e ≡ None
  pub going : stopped (all_of e) ≡ false
  pub unshut : shut (all_of e) c ≡ false
  pub staying : list_any (is_parting c) (all_of e) ≡ false
  pub upgraded_is : upgraded e.items c ≡ spoken
  pub http_before : upgraded e.before c ≡ false
  pub room : spoken ≡ true → has_room c (all_of e) ≡ true
  pub untalked : list_any (is_of_talk c) (all_of e) ≡ false
  pub once : AskedInTurn c (all_of e)
  pub unasked : client_wanted (all_of e) c ≡ false
  pub none : legs ≡ []
  pub no_child : HasChildren c e []
  pub new : IsNew c e 0

-- The accept text is written in its turn, ..
pub record AcceptsMove (site : Site) (c : ℕ) (e : Exchange) (legs : List Leg) (continued : Bool) (text : List ℕ) (launch : Launch) : Type 0 where
  pub then_is : IsOpening site c (pushed e (Out (Write c text))) legs continued launch false
  pub in_turn : may_go_on c e ≡ true → begins_in_turn site c e (Write c text) ≡ true

abbrev pub AcceptsAreWritten : Type 0
AcceptsAreWritten = (site : Site) (c : ℕ) (e : Exchange) (legs : List Leg) (continued : Bool) (text : List ℕ) (launch : Launch) → 2 ≤ site.limits.head
    → IsWelcoming site c e legs continued text launch → AcceptsMove site c e legs continued text launch

-- .. the Upgrade brings what the client sent after the handshake, ..
pub record UpgradesMove (site : Site) (c : ℕ) (e : Exchange) (legs : List Leg) (continued : Bool) (launch : Launch) (rest : List ℕ) : Type 0 where
  pub then_is : IsOpening site c (pushed e (Out (Upgrade c rest))) legs continued launch true
  pub right : rest ≡ left_over site c e → is_right_talk_act site c e (Upgrade c rest) ≡ true

abbrev pub UpgradesAreGiven : Type 0
UpgradesAreGiven = (site : Site) (c : ℕ) (e : Exchange) (legs : List Leg) (continued : Bool) (launch : Launch) (rest : List ℕ) → 2 ≤ site.limits.head
    → IsOpening site c e legs continued launch false → UpgradesMove site c e legs continued launch rest

-- .. and the Start is the one that is due.
abbrev pub OpeningsStartRight : Type 0
OpeningsStartRight = (site : Site) (c : ℕ) (e : Exchange) (legs : List Leg) (continued : Bool) (launch : Launch) (k : ℕ)
    → IsOpening site c e legs continued launch true → is_right_start site c e (Start k c e.number 0 launch) ≡ true
