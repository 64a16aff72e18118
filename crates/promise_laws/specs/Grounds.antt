-- Why a reply stands: what of the items of its exchange is the ground for it.
use Rattle.std.specs.Prelude.{ℕ, zero, suc, Bool, true, false, List, [], ◌∷◌, ◌++◌, ◌≡◌, ◌<◌, ◌+◌, length, Some, None, Ok, Err}
use Rattle.std.specs.List.{flat_map}
use Rattle.host_base.specs.declared.cause.Cause.{Cause}
use Rattle.host_base.specs.declared.cause.Cause.TheVariants.{StartFailed as StartFailedCause, OutputBroken, OutputTooLarge, RunTime, Full, Incomplete, IdleTime, RedirectLoop}
use Rattle.host_base.specs.declared.launch.Launch.{Launch}
use Rattle.host_base.specs.declared.request.Request.{Request}
use Rattle.host_base.specs.declared.site.Mapped.{Mapped}
use Rattle.host_base.specs.declared.site.ScriptKind.TheVariants.{WebSocket}
use Rattle.host_base.specs.declared.site.Site.{Site}
use Rattle.host_trace.specs.declared.items.Act.TheVariants.{Start}
use Rattle.host_trace.specs.declared.items.Event.TheVariants.{ClientEof, StartFailed, StartFull, ChildBytes, ChildEof, ChildBroken, Tick}
use Rattle.host_trace.specs.declared.items.Item.{Item}
use Rattle.host_trace.specs.declared.items.Item.TheVariants.{In, Out}
use Rattle.host_trace.specs.First.{since}
use Rattle.host_trace.specs.Kinds.{is_start}
use Rattle.host_trace.specs.Projections.{child_out, client_in, tick_count}
use Rattle.reply_kinds.specs.declared.derived.Derived.TheVariants as Output
use Rattle.reply_kinds.specs.Derived.{derived_of}
use Rattle.request_reader.specs.Request.{Bad, is_begun}
use Rattle.ws_handshake.specs.Handshake.{handshake}
use Rattle.trace_child.specs.Run.{Run}
use Rattle.trace_child.specs.Decided.{decided_at}
use Rattle.trace_model.specs.Readings.{is_whole, startable}
use Rattle.trace_model.specs.Exchange.{Exchange, all_of, has_begun, reading, request_bytes, up_to}
use Rattle.trace_model.specs.Breaks.{broken, idle_count}
use Rattle.trace_model.specs.Places.{kind_of, origins_of, place_of}
use Rattle.trace_model.specs.Legs.{Leg, run_of}
use Rattle.trace_model.specs.Answer.{request_of_hop}
use Rattle.trace_model.specs.ModelLaws.{items_of_exchange, used}

-- ---- an exchange among the items of its connection

-- These are the exchanges before it. Its items stand behind theirs, and its request begins where the bytes end that
-- their requests used.
pub record StandsBehind (site : Site) (c : ℕ) (L : List Item) (earlier : List Exchange) (e : Exchange) : Type 0 where
  pub later : List Item
  pub items : L ≡ all_of e ++ later
  pub behind : e.before ≡ flat_map items_of_exchange earlier
  pub number : e.number ≡ length earlier
  pub heard : client_in (all_of e) c ≡ flat_map (used site c) earlier ++ request_bytes c e

-- ---- a run

-- The leg's child was started for this hop of the exchange, whose request goes to a script of the site: its Start stands.
pub record IsLegOf (site : Site) (c : ℕ) (e : Exchange) (hop : ℕ) (request : Request) (leg : Leg) : Type 0 where
  pub mapped : Mapped
  pub place : place_of site request ≡ Ok mapped
  pub kind : kind_of site mapped ≡ leg.kind
  pub hop_is : leg.hop ≡ hop
  pub request_is : leg.request ≡ request
  pub before : List Item
  pub launch : Launch
  pub later : List Item
  pub started : e.items ≡ before ++ Out (Start leg.child c e.number hop launch) ∷ later

-- The child ended its output here, before anything else decided its run; so this is its whole output.
pub record HasOutput (site : Site) (c : ℕ) (e : Exchange) (leg : Leg) (output : List ℕ) : Type 0 where
  pub before : List Item
  pub later : List Item
  pub ends : e.items ≡ before ++ In (ChildEof leg.child) ∷ later
  pub undecided : decided_at (run_of site c e leg) before ≡ None
  pub whole : child_out before leg.child ≡ output

-- x, after these items of the exchange, is why the run fails
abbrev pub FailsBy : Run → List Item → Item → Cause → Type 0
FailsBy run front (In (StartFailed k)) cause = (k ≡ run.child) × (cause ≡ StartFailedCause)
FailsBy run front (In (StartFull k seen)) cause = (k ≡ run.child) × (cause ≡ Full seen)
FailsBy run front (In (ChildBroken k)) cause = (k ≡ run.child) × (cause ≡ OutputBroken)
FailsBy run front (In (ChildBytes k bytes)) cause =
    (k ≡ run.child) × (run.limits.output < length (child_out (since (is_start run.child) front ++ In (ChildBytes k bytes) ∷ []) run.child)) × (cause ≡ OutputTooLarge)
FailsBy run front (In (Tick secs)) cause = (tick_count (since (is_start run.child) front) + 1 ≡ run.limits.run_ticks) × (cause ≡ RunTime)
FailsBy run front (In (ClientEof d)) cause = (d ≡ run.conn) × ((run.offered front).whole ≡ false) × (cause ≡ Incomplete)
FailsBy run front _ cause = ⊥

-- The run failed with this item, before anything else decided it.
pub record HasFailed (site : Site) (c : ℕ) (e : Exchange) (leg : Leg) (cause : Cause) : Type 0 where
  pub before : List Item
  pub item : Item
  pub later : List Item
  pub stands : e.items ≡ before ++ item ∷ later
  pub undecided : decided_at (run_of site c e leg) before ≡ None
  pub fails : FailsBy (run_of site c e leg) before item cause

-- ---- the hops of a request

-- a local redirect of the hop before led to this request (RFC 3875 6.2.2): the whole output of its script is one
pub record IsRedirected (site : Site) (c : ℕ) (e : Exchange) (hop : ℕ) (Before : Request → Type 0) (request : Request) : Type 0 where
  pub from : Request
  pub led : Before from
  pub leg : Leg
  pub ran : IsLegOf site c e hop from leg
  pub output : List ℕ
  pub ended : HasOutput site c e leg output
  pub location : List ℕ
  pub redirects : derived_of leg.kind output ≡ Output.Hop location
  pub asks : request ≡ request_of_hop from location

-- This is the request of a hop: that of the client itself, and of each hop behind it what the local redirect asks for.
abbrev pub IsLed : Site → ℕ → Exchange → ℕ → Request → Type 0
IsLed site c e zero request = startable (reading site c e) ≡ Some request
IsLed site c e (suc hop) request = IsRedirected site c e hop (IsLed site c e hop) request

-- the leg's child is that of a hop of the exchange
pub record IsRun (site : Site) (c : ℕ) (e : Exchange) (leg : Leg) : Type 0 where
  pub led : IsLed site c e leg.hop leg.request
  pub ran : IsLegOf site c e leg.hop leg.request leg

-- ---- causes

-- x, after these items of the exchange, is why its request ended before it was answered: the client ended its input
-- within it, or sent nothing for the idle time
abbrev pub InterruptsBy : Site → ℕ → Exchange → List Item → Item → Cause → Type 0
InterruptsBy site c e front (In (ClientEof d)) cause = (c ≡ d) × (is_whole (reading site c (up_to e front)) ≡ false) × (cause ≡ Incomplete)
InterruptsBy site c e front (In (Tick secs)) cause = (idle_count c front + 1 ≡ site.limits.idle_ticks) × (cause ≡ IdleTime)
InterruptsBy site c e front _ cause = ⊥

-- The item stands while the request is begun and nothing was done for it, and no earlier item breaks it.
pub record IsInterrupted (site : Site) (c : ℕ) (e : Exchange) (cause : Cause) : Type 0 where
  pub before : List Item
  pub item : Item
  pub later : List Item
  pub stands : e.items ≡ before ++ item ∷ later
  pub begun : is_begun (request_bytes c (up_to e before)) ≡ true
  pub undone : has_begun site c (up_to e before) ≡ false
  pub first : broken site c (up_to e before) ≡ None
  pub interrupts : InterruptsBy site c e before item cause

-- Why a request is refused at its target: no script of the site stands there, for this reason; or its script is a
-- WebSocket's, and the handshake is refused (RFC 6455 4.2.2); or it follows one local redirect more than may be.
pub data IsRefusedFor (site : Site) (hop : ℕ) (request : Request) (cause : Cause) : Type 0 where
  by_place : place_of site request ≡ Err cause → IsRefusedFor site hop request cause
  by_handshake : (mapped : Mapped) → place_of site request ≡ Ok mapped → kind_of site mapped ≡ WebSocket
      → handshake request (origins_of site mapped) ≡ Err cause → IsRefusedFor site hop request cause
  by_redirects : hop ≡ site.limits.redirects + 1 → cause ≡ RedirectLoop → IsRefusedFor site hop request cause

-- .. where the request is that of the client or of a hop behind it. Behind one local redirect too many stand as many
-- Starts of the exchange as there may be redirects, and one more.
pub record IsRefused (site : Site) (c : ℕ) (e : Exchange) (cause : Cause) : Type 0 where
  pub hop : ℕ
  pub request : Request
  pub led : IsLed site c e hop request
  pub why : IsRefusedFor site hop request cause

-- The cause stands in the items of the exchange: the bytes of its request are refused as they are read; or an item
-- interrupts it; or its target is refused; or the whole output of its script is; or an item fails the run.
pub data IsCause (site : Site) (c : ℕ) (e : Exchange) (cause : Cause) : Type 0 where
  by_request : (bare : Bool) → reading site c e ≡ Bad cause bare → IsCause site c e cause
  by_item : IsInterrupted site c e cause → IsCause site c e cause
  by_target : IsRefused site c e cause → IsCause site c e cause
  by_output : (leg : Leg) (output : List ℕ) → IsRun site c e leg → HasOutput site c e leg output → derived_of leg.kind output ≡ Output.Bad cause
      → IsCause site c e cause
  by_run : (leg : Leg) → IsRun site c e leg → HasFailed site c e leg cause → IsCause site c e cause
