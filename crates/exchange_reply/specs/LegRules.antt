-- What holds of an exchange whose answer is written by the reply of a leg.
use Rattle.std.specs.Prelude.{ℕ, ◌≡◌, ◌<◌, ◌^◌, Bool, true, false, not, ◌&&◌, ◌||◌, List, [], ◌++◌, length, Option, Some}
use Rattle.host_base.specs.declared.cause.Cause.{Cause}
use Rattle.host_base.specs.declared.request.Request.{Request}
use Rattle.host_base.specs.declared.request.Target.{Target}
use Rattle.host_base.specs.declared.site.Site.{Site}
use Rattle.host_trace.specs.declared.items.Act.TheVariants.{Write}
use Rattle.host_trace.specs.declared.items.Item.{Item}
use Rattle.host_trace.specs.declared.items.Item.TheVariants.{Out}
use Rattle.host_trace.specs.Kinds.{output_heard}
use Rattle.host_trace.specs.Projections.{child_out, last_secs}
use Rattle.reply_kinds.specs.declared.derived.Derived.{Derived}
use Rattle.reply_kinds.specs.Derived.{derived_of}
use Rattle.reply_writer.specs.FaultReply.{fault_reply_of}
use Rattle.reply_writer.specs.WholeReply.{Spells}
use Rattle.reply_stream.specs.declared.asked.Asked.{Asked}
use Rattle.reply_stream.specs.declared.stream.Last.TheVariants as Ended
use Rattle.reply_stream.specs.Writing.{Stood, begun, begun_way, whole_way}
use Rattle.request_reader.specs.Request.{redirected}
use Rattle.trace_child.specs.Words.{is_filled}
use Rattle.trace_model.specs.Answer.{running, broken_off, answered, faulted, answer, is_undecided, stage}
use Rattle.trace_model.specs.Closes.{as_begun, closes_now, fault_way, is_closing_fault, is_nph, persists_by, way, way_now}
use Rattle.trace_model.specs.Demands.{is_tick_after_header, is_to_stream}
use Rattle.trace_model.specs.Exchange.{Exchange, all_of, continue_part, final, has_final, pushed, reading, written}
use Rattle.trace_model.specs.Legs.{Leg}
use Rattle.trace_model.specs.ModelLaws.{BeginsAt}
use Rattle.trace_model.specs.Readings.{headed, is_head_request, is_whole}
use Rattle.trace_model.specs.Standing.{is_whole_final, may_be_final}
use Rattle.trace_model.specs.Streams.{begins_no_sooner, streams}
use Rattle.exchange_reply.specs.Standings.{Ends, Stands, bytes_of, is_due, way_of}
use Rattle.exchange_reply.specs.Leg.{IsMadeFor, IsReplyOf, has_ticked}

-- ---- while the run goes on

-- what stands may stand, all that is to stand does, and the whole answer doesn't
pub record GoesOnWell (site : Site) (c : ℕ) (e : Exchange) : Type 0 where
  pub may : may_be_final site c e (final site c e) ≡ true
  pub streams : streams site c e ≡ true
  pub unended : is_whole_final site c e (final site c e) ≡ false

abbrev pub RepliesGoOn : Type 0
RepliesGoOn = (site : Site) (c : ℕ) (e : Exchange) (leg : Leg) (asked : Asked) (stood : Stood) → stage site c e ≡ running leg
    → IsReplyOf site c e leg asked stood → GoesOnWell site c e

-- The model demands the reply exactly where it is due by what the leg gave.
abbrev pub DuesAreDemanded : Type 0
DuesAreDemanded = (e : Exchange) (leg : Leg)
    → is_to_stream e (running leg) ≡ is_due leg.kind (child_out e.items leg.child) (has_ticked e leg)

-- What the reply is told of an item more: its output, and a Tick where the header was whole.
pub record IsTold (e : Exchange) (leg : Leg) (x : Item) : Type 0 where
  pub output : child_out (pushed e x).items leg.child ≡ child_out e.items leg.child ++ output_heard leg.child x
  pub ticked : has_ticked (pushed e x) leg ≡ (has_ticked e leg || is_tick_after_header leg e.items x)

abbrev pub ItemsAreTold : Type 0
ItemsAreTold = (e : Exchange) (leg : Leg) (x : Item) → IsTold e leg x

-- A first byte of an answer that is not decided is written no sooner than it is due.
abbrev pub FirstBytesAreDue : Type 0
FirstBytesAreDue = (site : Site) (c : ℕ) (e : Exchange) (leg : Leg) → stage site c (as_begun site c e) ≡ running leg
    → is_due leg.kind (child_out (as_begun site c e).items leg.child) (has_ticked (as_begun site c e) leg) ≡ true
    → begins_no_sooner site c e ≡ true

-- ---- once it is decided

-- After a run that was broken off what stands of a reply that had begun may stand, whatever output came since.
abbrev pub RepliesAreLeft : Type 0
RepliesAreLeft = (site : Site) (c : ℕ) (e : Exchange) (leg : Leg) (asked : Asked) (cause : Option Cause) (ticked close : Bool) (stamp : Option ℕ)
    (bytes output more : List ℕ) → stage site c e ≡ broken_off leg cause bytes → leg.kind ≡ asked.kind → way site c e ≡ begun_way asked close stamp
    → child_out e.items leg.child ≡ output ++ more → length output < 2 ^ 64 → Stands asked output ticked (begun close stamp bytes)
    → may_be_final site c e bytes ≡ true

-- with this text the whole answer stands, and no sooner
pub record EndsWell (site : Site) (c : ℕ) (e : Exchange) (before text : List ℕ) : Type 0 where
  pub whole : is_whole_final site c e (before ++ text) ≡ true
  pub may : may_be_final site c e (before ++ text) ≡ true
  pub no_sooner : is_filled text ≡ true → is_whole_final site c e before ≡ false

abbrev pub RepliesEnd : Type 0
RepliesEnd = (site : Site) (c : ℕ) (e : Exchange) (leg : Leg) (asked : Asked) (output : List ℕ) (ticked close : Bool) (stamp : Option ℕ) (stood : Stood)
    (text : List ℕ) → stage site c e ≡ answered leg (derived_of asked.kind output) → way site c e ≡ way_of asked close stamp stood
    → length output < 2 ^ 64 → Stands asked output ticked stood → Ends asked output close stamp stood (Ended.Written text)
    → EndsWell site c e (bytes_of stood) text

-- The host's own reply is the whole answer where there is a cause and nothing stands.
abbrev pub FaultsEnd : Type 0
FaultsEnd = (site : Site) (c : ℕ) (e : Exchange) (cause : Cause) (text : List ℕ) → answer site c e ≡ faulted cause
    → Spells text (fault_way site c e) (fault_reply_of cause) → EndsWell site c e [] text

-- ---- the way

-- An answer that begins now is spelled as the reply of the leg is, while its run goes on ..
abbrev pub WaysBegin : Type 0
WaysBegin = (site : Site) (c : ℕ) (e : Exchange) (leg : Leg) (asked : Asked) → IsMadeFor site c e leg asked → stage site c e ≡ running leg
    → way_now site c e ≡ begun_way asked (closes_now site c e) (last_secs (all_of e))

-- .. and once it is decided.
abbrev pub WaysEnd : Type 0
WaysEnd = (site : Site) (c : ℕ) (e : Exchange) (leg : Leg) (asked : Asked) → IsMadeFor site c e leg asked → is_undecided (answer site c e) ≡ false
    → way_now site c e ≡ whole_way asked (closes_now site c e) (last_secs (all_of e))

-- The request of a local redirect asks for its reply as the first request does.
abbrev pub HopsAskAlike : Type 0
HopsAskAlike = (request : Request) (target : Target)
    → ((redirected request target).version ≡ request.version)
    × (is_head_request (Some (redirected request target)) ≡ is_head_request (Some request))

-- It closes where the script is nph, or the request asks for it or is not whole (RFC 9112 9.3 and 9.6).
abbrev pub closes_by : Site → ℕ → Exchange → Leg → Bool
closes_by site c e leg = is_nph leg.kind || not (persists_by (headed (reading site c e)) && is_whole (reading site c e))

pub record LegsClose (site : Site) (c : ℕ) (e : Exchange) (leg : Leg) : Type 0 where
  pub on : stage site c e ≡ running leg → closes_now site c e ≡ closes_by site c e leg
  pub ended : (derived : Derived) → stage site c e ≡ answered leg derived → is_closing_fault (answer site c e) ≡ false
      → closes_now site c e ≡ closes_by site c e leg

abbrev pub ClosesAreOfLegs : Type 0
ClosesAreOfLegs = (site : Site) (c : ℕ) (e : Exchange) (leg : Leg) → LegsClose site c e leg

-- ---- the first byte

-- While nothing stands of the final answer, it is as an answer that begins now.
abbrev pub UnbegunIsNow : Type 0
UnbegunIsNow = (site : Site) (c : ℕ) (e : Exchange) → has_final site c e ≡ false → as_begun site c e ≡ e

-- A Write of some bytes after 100 Continue, where it was due, is that of the first byte.
abbrev pub WritesBegin : Type 0
WritesBegin = (site : Site) (c : ℕ) (e : Exchange) (bytes : List ℕ) → written c e ≡ continue_part site c e → is_filled bytes ≡ true
    → BeginsAt site c (pushed e (Out (Write c bytes))) (pushed e (Out (Write c bytes))).items

-- A Write leaves the exchange where it stands, and is of its answer.
pub record IsOfAnswer (site : Site) (c : ℕ) (e : Exchange) (bytes : List ℕ) : Type 0 where
  pub stage_then : stage site c (pushed e (Out (Write c bytes))) ≡ stage site c e
  pub reading_then : reading site c (pushed e (Out (Write c bytes))) ≡ reading site c e
  pub continue_then : continue_part site c (pushed e (Out (Write c bytes))) ≡ continue_part site c e
  pub written_then : written c (pushed e (Out (Write c bytes))) ≡ written c e ++ bytes
  pub way_now_then : way_now site c (pushed e (Out (Write c bytes))) ≡ way_now site c e

abbrev pub WritesAreOfAnswers : Type 0
WritesAreOfAnswers = (site : Site) (c : ℕ) (e : Exchange) (bytes : List ℕ) → IsOfAnswer site c e bytes
