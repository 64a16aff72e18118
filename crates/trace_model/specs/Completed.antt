-- What stands of an exchange that has ended, in the words of the standards: a reply that RFC 3875 derives from its
-- child's whole output, or the host's own reply for a cause that stands in the trace.
use Rattle.std.specs.Prelude.{ℕ, Bool, false, List, [], ◌++◌, ◌≡◌, Some}
use Rattle.std.specs.List.{AllByRecursion, flat_map}
use Rattle.host_base.specs.declared.cause.Cause.{Cause}
use Rattle.host_base.specs.declared.site.Site.{Site}
use Rattle.host_trace.specs.declared.items.Item.{Item}
use Rattle.host_trace.specs.Account.{has_unsettled}
use Rattle.host_trace.specs.Decider.{Outcome, derived, failed}
use Rattle.host_trace.specs.First.{last_of}
use Rattle.host_trace.specs.Projections.{child_out, client_out, own}
use Rattle.reply_kinds.specs.declared.derived.Derived.{Derived}
use Rattle.reply_kinds.specs.declared.derived.Derived.TheVariants as Output
use Rattle.reply_kinds.specs.Derived.{derived_of}
use Rattle.reply_writer.specs.FaultReply.{fault_reply_of}
use Rattle.reply_writer.specs.WholeReply.{Spells}
use Rattle.request_reader.specs.Request.{Bad}
use Rattle.trace_child.specs.Decided.{decided_at, outcome_at}
use Rattle.trace_model.specs.Exchange.{Exchange, reading, written, continue_part}
use Rattle.trace_model.specs.Breaks.{broken, break_cause}
use Rattle.trace_model.specs.Legs.{Leg, run_of}
use Rattle.trace_model.specs.Answer.{Stage, rejected, interrupted, refused, broken_off, answered, stage}
use Rattle.trace_model.specs.Closes.{way, fault_way}
use Rattle.trace_model.specs.Exchanges.{current, ended}

-- the leg's run was decided by this item, which makes this of it
pub record IsDecided (site : Site) (c : ℕ) (e : Exchange) (leg : Leg) (outcome : Outcome) : Type 0 where
  pub front : List Item
  pub item : Item
  pub decided : decided_at (run_of site c e leg) e.items ≡ Some front
  pub last : last_of front ≡ Some item
  pub makes : outcome_at (run_of site c e leg) item ≡ outcome

-- the leg's whole output, up to its end, derives this (RFC 3875 6.2)
pub record IsDerived (site : Site) (c : ℕ) (e : Exchange) (leg : Leg) (output : Derived) : Type 0 where
  pub by_end : IsDecided site c e leg derived
  pub derives : derived_of leg.kind (child_out by_end.front leg.child) ≡ output

-- the request is refused as it is read
pub record IsRefusedAsRead (site : Site) (c : ℕ) (e : Exchange) (cause : Cause) : Type 0 where
  pub bare : Bool
  pub reads : reading site c e ≡ Bad cause bare

-- the request was broken by the last of these items
pub record IsBroken (site : Site) (c : ℕ) (e : Exchange) (cause : Cause) : Type 0 where
  pub front : List Item
  pub breaks : broken site c e ≡ Some front
  pub names : break_cause front ≡ cause

abbrev pub SpellsFault : Site → ℕ → Exchange → List ℕ → Cause → Type 0
SpellsFault site c e bytes cause = Spells bytes (fault_way site c e) (fault_reply_of cause)

-- these bytes are the whole answer of an exchange that stands here, and its ground
abbrev pub IsWholeAt : Site → ℕ → Exchange → List ℕ → Stage → Type 0
IsWholeAt site c e bytes (answered leg (Output.Reply reply)) = IsDerived site c e leg (Output.Reply reply) × Spells bytes (way site c e) reply
IsWholeAt site c e bytes (answered leg (Output.Raw output)) = IsDerived site c e leg (Output.Raw output) × (bytes ≡ output)
IsWholeAt site c e bytes (answered leg (Output.Bad cause)) = IsDerived site c e leg (Output.Bad cause) × SpellsFault site c e bytes cause
IsWholeAt site c e bytes (answered leg (Output.Hop location)) = ⊥
IsWholeAt site c e bytes (rejected cause) = IsRefusedAsRead site c e cause × SpellsFault site c e bytes cause
IsWholeAt site c e bytes (interrupted cause) = IsBroken site c e cause × SpellsFault site c e bytes cause
IsWholeAt site c e bytes (refused cause) = SpellsFault site c e bytes cause
IsWholeAt site c e bytes (broken_off leg (Some cause) []) = IsDecided site c e leg (failed cause) × SpellsFault site c e bytes cause
IsWholeAt site c e bytes _ = ⊥

-- after 100 Continue, where it was due, the whole answer stands, and no child of the exchange is left
pub record IsCompleted (site : Site) (c : ℕ) (e : Exchange) : Type 0 where
  pub bytes : List ℕ
  pub wrote : written c e ≡ continue_part site c e ++ bytes
  pub whole : IsWholeAt site c e bytes (stage site c e)
  pub settled : has_unsettled e.items c ≡ false

-- what was written to a client is what was written of each exchange, in their order, each of which is completed but
-- that which goes on
pub record IsAnsweredInOrder (site : Site) (c : ℕ) (L : List Item) : Type 0 where
  pub wrote : client_out L c ≡ flat_map (written c) (ended site c L) ++ written c (current site c L)
  pub each : AllByRecursion (IsCompleted site c) (ended site c L)

-- .. and so it is in a trace of many connections
pub record IsAnsweredByTrace (site : Site) (c : ℕ) (T : List Item) : Type 0 where
  pub wrote : client_out T c ≡ flat_map (written c) (ended site c (own T c)) ++ written c (current site c (own T c))
  pub each : AllByRecursion (IsCompleted site c) (ended site c (own T c))
