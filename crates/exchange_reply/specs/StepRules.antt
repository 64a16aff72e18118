-- How an exchange goes on while the reply of its leg is written.
use Rattle.std.specs.Prelude.{ℕ, ◌≡◌, ◌≤◌, ◌<◌, ◌^◌, Bool, true, false, nat_eq, List, [], ◌∷◌, ◌++◌, length, Option}
use Rattle.std.specs.List.{starts_with}
use Rattle.host_base.specs.declared.cause.Cause.{Cause}
use Rattle.host_base.specs.declared.site.Site.{Site}
use Rattle.host_trace.specs.declared.items.Act.TheVariants.{Write}
use Rattle.host_trace.specs.declared.items.Item.{Item}
use Rattle.host_trace.specs.declared.items.Item.TheVariants.{Out}
use Rattle.host_trace.specs.Kinds.{bytes_written}
use Rattle.host_trace.specs.Projections.{child_out, last_secs}
use Rattle.reply_kinds.specs.Derived.{derived_of}
use Rattle.reply_stream.specs.declared.asked.Asked.{Asked}
use Rattle.reply_stream.specs.declared.stream.Last.TheVariants as Ended
use Rattle.reply_stream.specs.Writing.{Stood, nothing, begun, IsQuiet}
use Rattle.trace_child.specs.Words.{is_filled}
use Rattle.trace_model.specs.Answer.{running, broken_off, answered, faulted, answer, is_undecided, stage}
use Rattle.trace_model.specs.Closes.{closes_now, way, way_now}
use Rattle.trace_model.specs.Demands.{is_to_stream}
use Rattle.trace_model.specs.Exchange.{Exchange, all_of, continue_part, final, has_final, pushed, reading, written}
use Rattle.trace_model.specs.Legs.{Leg}
use Rattle.trace_model.specs.ModelLaws.{BeginsAt, IsHeaded}
use Rattle.trace_model.specs.Readings.{is_bare}
use Rattle.trace_model.specs.Standing.{may_stand, stands_whole}
use Rattle.trace_model.specs.Streams.{begins_no_sooner, streams}
use Rattle.exchange_reply.specs.Reply.{SpellsFault}
use Rattle.exchange_reply.specs.Standings.{Ends, Stands, bytes_of, next}
use Rattle.exchange_reply.specs.Leg.{IsFixed, IsMadeFor, IsReplyOf, has_ticked}

-- ---- a text

-- the exchange once this text was written, if it is any
abbrev pub wrote : ℕ → Exchange → List ℕ → Exchange
wrote c e [] = e
wrote c e (byte ∷ bytes) = pushed e (Out (Write c (byte ∷ bytes)))

-- 100 Continue stands, where it was due
abbrev pub is_continued : Site → ℕ → Exchange → Bool
is_continued site c e = starts_with nat_eq (written c e) (continue_part site c e)

-- the text is of the final answer, and changes nothing else; the first one fixes the way
pub record Extends (site : Site) (c : ℕ) (e : Exchange) (text : List ℕ) : Type 0 where
  pub stage_then : stage site c (wrote c e text) ≡ stage site c e
  pub reading_then : reading site c (wrote c e text) ≡ reading site c e
  pub continued_then : is_continued site c e ≡ true → is_continued site c (wrote c e text) ≡ true
  pub final_then : is_continued site c e ≡ true → final site c (wrote c e text) ≡ final site c e ++ text
  pub output_then : (k : ℕ) → child_out (wrote c e text).items k ≡ child_out e.items k
  pub ticked_then : (leg : Leg) → has_ticked (wrote c e text) leg ≡ has_ticked e leg
  pub first : is_continued site c e ≡ true → has_final site c e ≡ false → is_filled text ≡ true
      → BeginsAt site c (wrote c e text) (wrote c e text).items × (way site c (wrote c e text) ≡ way_now site c e)
  pub later : (front : List Item) → BeginsAt site c e front
      → BeginsAt site c (wrote c e text) front × (way site c (wrote c e text) ≡ way site c e)

abbrev pub TextsExtend : Type 0
TextsExtend = (site : Site) (c : ℕ) (e : Exchange) (text : List ℕ) → Extends site c e text

-- ---- an item by which nothing is written

-- of a reply that has begun there is a Write of its first byte
abbrev pub IsBegunAt : Site → ℕ → Exchange → Stood → Type 0
IsBegunAt site c e nothing = Unit {0}
IsBegunAt site c e (begun close stamp bytes) = (front : List Item) × BeginsAt site c e front

-- it leaves what stands
pub record Leaves (site : Site) (c : ℕ) (e : Exchange) (x : Item) (asked : Asked) (stood : Stood) : Type 0 where
  pub continued_then : is_continued site c e ≡ true → is_continued site c (pushed e x) ≡ true
  pub final_then : final site c (pushed e x) ≡ final site c e
  pub fixed_then : IsFixed site c e asked stood → IsBegunAt site c e stood → IsFixed site c (pushed e x) asked stood
  pub begun_then : IsBegunAt site c e stood → IsBegunAt site c (pushed e x) stood

abbrev pub ItemsLeave : Type 0
ItemsLeave = (site : Site) (c : ℕ) (e : Exchange) (x : Item) (asked : Asked) (stood : Stood) → 2 ≤ site.limits.head → IsHeaded (reading site c e)
    → bytes_written c x ≡ [] → Leaves site c e x asked stood

-- ---- what a reply hands out

-- the answer of the exchange is written by the reply of this leg, of which this stands
pub record IsWrittenBy (site : Site) (c : ℕ) (e : Exchange) (leg : Leg) (asked : Asked) (stood : Stood) : Type 0 where
  pub made : IsMadeFor site c e leg asked
  pub continued : is_continued site c e ≡ true
  pub final_is : final site c e ≡ bytes_of stood
  pub fixed : IsFixed site c e asked stood
  pub begun_at : IsBegunAt site c e stood

-- what stands once this text is written, by what was heard of the leg
abbrev pub next_at : Site → ℕ → Exchange → Leg → Asked → Stood → List ℕ → Stood
next_at site c e leg asked stood text =
    next asked (child_out e.items leg.child) (has_ticked e leg) (closes_now site c e) (last_secs (all_of e)) stood text

-- the answer goes on to be written by the reply, and all of it stands that is to
pub record HandsOn (site : Site) (c : ℕ) (e : Exchange) (leg : Leg) (asked : Asked) (stood : Stood) : Type 0 where
  pub at : stage site c e ≡ running leg
  pub written_by : IsWrittenBy site c e leg asked stood
  pub reply : IsReplyOf site c e leg asked stood

-- What `hear` and `tick` hand out, once it is written.
abbrev pub HandingsStand : Type 0
HandingsStand = (site : Site) (c : ℕ) (e : Exchange) (leg : Leg) (asked : Asked) (stood : Stood) (text : List ℕ) → stage site c e ≡ running leg
    → IsWrittenBy site c e leg asked stood → length (child_out e.items leg.child) < 2 ^ 64
    → Stands asked (child_out e.items leg.child) (has_ticked e leg) (next_at site c e leg asked stood text)
    → IsQuiet (next_at site c e leg asked stood text) text
    → HandsOn site c (wrote c e text) leg asked (next_at site c e leg asked stood text)

-- what stands may stand, all that is to stand does, and the whole answer doesn't
pub record KeepsRules (site : Site) (c : ℕ) (e : Exchange) : Type 0 where
  pub may : may_stand site c e ≡ true
  pub streams : streams site c e ≡ true
  pub unended : stands_whole site c e ≡ false

abbrev pub HandingsKeepRules : Type 0
HandingsKeepRules = (site : Site) (c : ℕ) (e : Exchange) (leg : Leg) (asked : Asked) (stood : Stood) → HandsOn site c e leg asked stood → KeepsRules site c e

-- What stood of a reply when its run was broken off may stand, whatever output came since.
abbrev pub LeftsMayStand : Type 0
LeftsMayStand = (site : Site) (c : ℕ) (e : Exchange) (leg : Leg) (asked : Asked) (cause : Option Cause) (ticked close : Bool) (stamp : Option ℕ)
    (bytes output more : List ℕ) → stage site c e ≡ broken_off leg cause bytes → IsWrittenBy site c e leg asked (begun close stamp bytes)
    → child_out e.items leg.child ≡ output ++ more → length output < 2 ^ 64 → Stands asked output ticked (begun close stamp bytes)
    → may_stand site c e ≡ true

-- ---- the end

-- with this text the whole answer stands, and no sooner
pub record Finishes (site : Site) (c : ℕ) (e : Exchange) (text : List ℕ) : Type 0 where
  pub whole : stands_whole site c (wrote c e text) ≡ true
  pub may : may_stand site c (wrote c e text) ≡ true
  pub no_sooner : is_filled text ≡ true → stands_whole site c e ≡ false

-- What `end` hands out, once it is written.
abbrev pub EndingsStand : Type 0
EndingsStand = (site : Site) (c : ℕ) (e : Exchange) (leg : Leg) (asked : Asked) (output : List ℕ) (ticked : Bool) (stood : Stood) (text : List ℕ)
    → stage site c e ≡ answered leg (derived_of asked.kind output) → IsWrittenBy site c e leg asked stood → length output < 2 ^ 64
    → Stands asked output ticked stood → Ends asked output (closes_now site c e) (last_secs (all_of e)) stood (Ended.Written text)
    → Finishes site c e text

-- The host's own reply, once it is written where nothing stood.
abbrev pub FaultsFinish : Type 0
FaultsFinish = (site : Site) (c : ℕ) (e : Exchange) (cause : Cause) (text : List ℕ) → answer site c e ≡ faulted cause → is_continued site c e ≡ true
    → has_final site c e ≡ false → SpellsFault cause (is_bare (reading site c e)) (closes_now site c e) (last_secs (all_of e)) text
    → Finishes site c e text

-- ---- no sooner

-- Where nothing stands of the final answer it hasn't begun too soon ..
abbrev pub UnbegunIsNoSooner : Type 0
UnbegunIsNoSooner = (site : Site) (c : ℕ) (e : Exchange) → has_final site c e ≡ false → begins_no_sooner site c e ≡ true

-- .. an item after its first byte changes nothing of that ..
abbrev pub ItemsComeNoSooner : Type 0
ItemsComeNoSooner = (site : Site) (c : ℕ) (e : Exchange) (x : Item) (front : List Item) → 2 ≤ site.limits.head → IsHeaded (reading site c e)
    → BeginsAt site c e front → begins_no_sooner site c e ≡ true → begins_no_sooner site c (pushed e x) ≡ true

-- .. and a text doesn't, if the first one of an answer that is not decided was demanded.
abbrev pub TextsComeNoSooner : Type 0
TextsComeNoSooner = (site : Site) (c : ℕ) (e : Exchange) (text : List ℕ) → is_continued site c e ≡ true → begins_no_sooner site c e ≡ true
    → (has_final site c e ≡ true → (front : List Item) × BeginsAt site c e front)
    → (has_final site c e ≡ false → is_filled text ≡ true → is_undecided (answer site c e) ≡ true → is_to_stream e (stage site c e) ≡ true)
    → begins_no_sooner site c (wrote c e text) ≡ true
