-- The promise on replies, as laws of every trace for which holds what is promised.
use Rattle.std.specs.Prelude.{ℕ, true, List, ◌∷◌, ◌++◌, ◌≡◌, ◌<◌, ◌⊎◌}
use Rattle.host_base.specs.declared.site.Site.{Site}
use Rattle.host_trace.specs.declared.items.Act.TheVariants.{CloseWs, Says}
use Rattle.host_trace.specs.declared.items.Event.TheVariants.{ChildEof}
use Rattle.host_trace.specs.declared.items.Item.{Item}
use Rattle.host_trace.specs.declared.items.Item.TheVariants.{In, Out}
use Rattle.host_trace.specs.Projections.{accepted_count, child_out, children, last_secs, own, shut_for_memory}
use Rattle.host_trace.specs.Trace.{AtEachStep, Step, end_of}
use Rattle.reply_kinds.specs.declared.derived.Derived.{Derived}
use Rattle.trace_model.specs.Legs.{Leg}
use Rattle.trace_model.specs.Answer.{answered, stage}
use Rattle.trace_child.specs.Words.{is_filled}
use Rattle.trace_model.specs.Closes.{fault_way, way}
use Rattle.trace_model.specs.Demands.{is_live}
use Rattle.trace_model.specs.Exchange.{Exchange}
use Rattle.trace_model.specs.ModelLaws.{BeginsAt}
use Rattle.trace_model.specs.Standing.{stands_whole}
use Rattle.trace_model.specs.Steps.{goes_on}
use Rattle.trace_laws.specs.Promised.{Promised}
use Rattle.promise_laws.specs.Replies.{IsWrittenRight}

-- What was written to each client is, exchange by exchange, 100 Continue where it was due and then the whole reply that
-- RFC 3875 derives from the whole output of its child, or the host's own reply for a cause that stands in the trace; and
-- behind these what may stand of the exchange that goes on.
abbrev pub RepliesAreRight : Type 0
RepliesAreRight = (site : Site) (T : List Item) (c : ℕ) → Promised site T → c < accepted_count T → IsWrittenRight site T c

-- ---- completeness

-- Where the exchange that goes on at the step's end is answered by the whole output of its last run, which is no local
-- redirect: its whole reply stands there, if the connection is open; and in a step that brings the end of an output, if
-- it was open before, unless it was shut for want of memory.
pub record IsCompleteAt (site : Site) (c : ℕ) (s : Step) : Type 0 where
  pub while_open : (leg : Leg) (output : Derived) → stage site c (goes_on site c s) ≡ answered leg output → is_live c (end_of s) ≡ true
      → stands_whole site c (goes_on site c s) ≡ true
  pub at_once : (k : ℕ) (leg : Leg) (output : Derived) → s.event ≡ ChildEof k → stage site c (goes_on site c s) ≡ answered leg output → is_live c s.before ≡ true
      → (stands_whole site c (goes_on site c s) ≡ true) ⊎ (shut_for_memory (end_of s) c ≡ true)

abbrev pub AnswersAreComplete : Type 0
AnswersAreComplete = (site : Site) (T : List Item) (c : ℕ) → Promised site T → c < accepted_count T → AtEachStep (IsCompleteAt site c) (own T c)

-- ---- WebSockets

-- A text is said and a close frame sent only once a program was started for the connection.
pub record TalksHavePrograms : Type 0 where
  pub texts : (site : Site) (T before : List Item) (c : ℕ) (said : List (List ℕ)) (later : List Item) → Promised site T → T ≡ before ++ Out (Says c said) ∷ later
      → is_filled (children before c) ≡ true
  pub codes : (site : Site) (T before : List Item) (c code : ℕ) (later : List Item) → Promised site T → T ≡ before ++ Out (CloseWs c code) ∷ later
      → is_filled (children before c) ≡ true

-- ---- the Date

-- The Date of an answer is that of the clock at the last Tick before its first byte was written, whatever follows (RFC
-- 9110 6.6.1).
pub record IsDatedAt (site : Site) (c : ℕ) (e : Exchange) (front : List Item) : Type 0 where
  pub reply : (way site c e).stamp ≡ last_secs (e.before ++ front)
  pub fault : (fault_way site c e).stamp ≡ last_secs (e.before ++ front)

abbrev pub DatesAreOfTheFirstByte : Type 0
DatesAreOfTheFirstByte = (site : Site) (c : ℕ) (e : Exchange) (front : List Item) → BeginsAt site c e front → IsDatedAt site c e front

-- ---- whole outputs

-- What was heard of an output before its end is all that the trace has of it.
abbrev pub OutputsAreWhole : Type 0
OutputsAreWhole = (site : Site) (T before : List Item) (k : ℕ) (later : List Item) → Promised site T → T ≡ before ++ In (ChildEof k) ∷ later
    → child_out T k ≡ child_out before k
