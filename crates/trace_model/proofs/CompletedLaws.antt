-- An exchange that has ended is completed: what stands of it, and why.
use Rattle.std.proofs.Common.{◌≡◌, ℕ, zero, suc, Bool, true, false, List, [], ◌∷◌, Option, Some, None, Result, Ok, Err, refl}
use Rattle.std.specs.Prelude.{nat_eq}
use Rattle.std.specs.List.{AllByRecursion, starts_with}
use Rattle.std.proofs.lemmas.Bool.{and_parts, false≢true}
use Rattle.std.proofs.lemmas.Bool.Decides.{Decides-eqb}
use Rattle.std.proofs.lemmas.Slice.Eq.{starts_is, bytes_eq-Decides}
use Rattle.host_base.specs.declared.cause.Cause.{Cause}
use Rattle.host_base.specs.declared.request.Request.{Request}
use Rattle.host_base.specs.declared.site.Mapped.{Mapped}
use Rattle.host_base.specs.declared.site.ScriptKind.{ScriptKind}
use Rattle.host_base.specs.declared.site.ScriptKind.TheVariants.{Cgi, Nph, WebSocket}
use Rattle.host_base.specs.declared.site.Site.{Site}
use Rattle.host_trace.specs.declared.items.Item.{Item}
use Rattle.host_trace.specs.Account.{has_unsettled}
use Rattle.host_trace.specs.First.{last_of}
use Rattle.host_trace.specs.Decider.{Outcome, derived, failed, unanswered}
use Rattle.host_trace.specs.Projections.{child_out, children_of}
use Rattle.reply_kinds.specs.declared.derived.Derived.{Derived}
use Rattle.reply_kinds.specs.declared.derived.Derived.TheVariants as Output
use Rattle.reply_kinds.specs.Derived.{derived_of}
use Rattle.reply_writer.specs.FaultReply.{fault_reply_of}
use Rattle.reply_writer.proofs.WholeLaws.{spelling_is}
use Rattle.request_reader.specs.Request.{Reading, Whole, More, Bad}
use Rattle.ws_handshake.specs.Handshake.{handshake}
use Rattle.trace_child.specs.Decided.{decided_at, outcome_at}
use Rattle.trace_model.specs.Readings.{if_length}
use Rattle.trace_model.specs.Exchange.{Exchange, reading, written, continue_part, final}
use Rattle.trace_model.specs.Breaks.{broken}
use Rattle.trace_model.specs.Places.{place_of, kind_of, origins_of}
use Rattle.trace_model.specs.Legs.{Leg, leg_of, run_of}
use Rattle.trace_model.specs.Answer.{Stage, rejected, interrupted, unready, refused, welcomed, unstarted, running, broken_off, answered, Walk, walk, walk_by, walk_by_break, walk_from, at_place, at_script, at_handshake, at_start, at_leg, at_run, at_decider, at_outcome, at_output, request_of_hop, stage, answer_at}
use Rattle.trace_model.specs.Closes.{way, fault_way}
use Rattle.trace_model.specs.Standing.{spells_answer, is_whole_final}
use Rattle.trace_model.specs.Exchanges.{has_ended, ends_by, ended}
use Rattle.trace_model.specs.Completed.{IsDecided, IsDerived, IsRefusedAsRead, IsBroken, IsWholeAt, IsCompleted, IsAnsweredInOrder}
use Rattle.trace_model.proofs.ExchangeLaws.{Ended, ended-all, written-exchanges}

-- ---- the ground of each stage

abbrev pub Ground : Site → ℕ → Exchange → Stage → Type 0
Ground site c e (rejected cause) = IsRefusedAsRead site c e cause
Ground site c e (interrupted cause) = IsBroken site c e cause
Ground site c e (broken_off leg (Some cause) stood) = IsDecided site c e leg (failed cause)
Ground site c e (broken_off leg None stood) = IsDecided site c e leg unanswered
Ground site c e (answered leg output) = IsDerived site c e leg output
Ground site c e _ = Unit {0}

abbrev Grounded : Site → ℕ → Exchange → Walk → Type 0
Grounded site c e walk = Ground site c e walk.stage

module _ (site : Site) (c : ℕ) (e : Exchange) (leg : Leg) (next : List ℕ → Walk) (each : (location : List ℕ) → Grounded site c e (next location)) where
  output_grounded : (output : Derived) → IsDerived site c e leg output → Grounded site c e (at_output leg next output)
  output_grounded (Output.Hop location) is = each location
  output_grounded (Output.Reply reply) is = is
  output_grounded (Output.Raw bytes) is = is
  output_grounded (Output.Bad cause) is = is

  outcome_grounded : (front : List Item) (item : Item) → decided_at (run_of site c e leg) e.items ≡ Some front → last_of front ≡ Some item
      → (o : Outcome) → outcome_at (run_of site c e leg) item ≡ o → Grounded site c e (at_outcome site c e leg next front o)
  outcome_grounded front item at last derived is =
      output_grounded (derived_of leg.kind (child_out front leg.child))
      (record { by_end = record { front = front; item = item; decided = at; last = last; makes = is }; derives = refl })
  outcome_grounded front item at last (failed cause) is = record { front = front; item = item; decided = at; last = last; makes = is }
  outcome_grounded front item at last unanswered is = record { front = front; item = item; decided = at; last = last; makes = is }

  decider_grounded : (front : List Item) → decided_at (run_of site c e leg) e.items ≡ Some front → (o : Option Item) → last_of front ≡ o
      → Grounded site c e (at_decider site c e leg next front o)
  decider_grounded front at None is = tt
  decider_grounded front at (Some item) is = outcome_grounded front item at is (outcome_at (run_of site c e leg) item) refl

  run_grounded : (o : Option (List Item)) → decided_at (run_of site c e leg) e.items ≡ o → Grounded site c e (at_run site c e leg next o)
  run_grounded None is = tt
  run_grounded (Some front) is = decider_grounded front is (last_of front) refl

  leg_grounded : Grounded site c e (at_leg site c e next leg)
  leg_grounded = run_grounded (decided_at (run_of site c e leg) e.items) refl

module _ (site : Site) (c : ℕ) (e : Exchange) (hop : ℕ) (request : Request) (next : List ℕ → Walk) (each : (location : List ℕ) → Grounded site c e (next location)) where
  start_grounded : (mapped : Mapped) (kind : ScriptKind) (ks : List ℕ) → Grounded site c e (at_start site c e hop request mapped kind next ks)
  start_grounded mapped kind [] = tt
  start_grounded mapped kind (k ∷ ks) = leg_grounded site c e (leg_of hop kind request k) next each

  handshake_grounded : (mapped : Mapped) (value : Result (List ℕ) Cause) → Grounded site c e (at_handshake c e hop request mapped value)
  handshake_grounded mapped (Ok value) = tt
  handshake_grounded mapped (Err cause) = tt

  script_grounded : (mapped : Mapped) (kind : ScriptKind) → Grounded site c e (at_script site c e hop request mapped next kind)
  script_grounded mapped WebSocket = handshake_grounded mapped (handshake request (origins_of site mapped))
  script_grounded mapped Cgi = start_grounded mapped Cgi (children_of e.items c e.number hop)
  script_grounded mapped Nph = start_grounded mapped Nph (children_of e.items c e.number hop)

  place_grounded : (place : Result Mapped Cause) → Grounded site c e (at_place site c e hop request next place)
  place_grounded (Err cause) = tt
  place_grounded (Ok mapped) = script_grounded mapped (kind_of site mapped)

from_grounded : (site : Site) (c : ℕ) (e : Exchange) (left hop : ℕ) (request : Request) → Grounded site c e (walk_from site c e left hop request)
from_grounded site c e zero hop request = place_grounded site c e hop request _ (λ location. tt) (place_of site request)
from_grounded site c e (suc left) hop request =
    place_grounded site c e hop request _ (λ location. from_grounded site c e left (suc hop) (request_of_hop request location)) (place_of site request)

break_grounded : (site : Site) (c : ℕ) (e : Exchange) (o : Option (List Item)) → broken site c e ≡ o → (request : Option Request) → Grounded site c e (walk_by_break site c e o request)
break_grounded site c e (Some front) is request = record { front = front; breaks = is; names = refl }
break_grounded site c e None is None = tt
break_grounded site c e None is (Some request) = from_grounded site c e site.limits.redirects 0 request

by_grounded : (site : Site) (c : ℕ) (e : Exchange) (r : Reading) → reading site c e ≡ r → Grounded site c e (walk_by site c e r)
by_grounded site c e (Bad cause bare) is = record { bare = bare; reads = is }
by_grounded site c e (Whole request used due) is = break_grounded site c e (broken site c e) refl (Some request)
by_grounded site c e (More request due) is = break_grounded site c e (broken site c e) refl (if_length request)

-- a cause stands in the trace, a derived reply comes from a whole output
pub stage_grounded : (site : Site) (c : ℕ) (e : Exchange) → Ground site c e (stage site c e)
stage_grounded site c e = by_grounded site c e (reading site c e) refl

-- ---- what stands whole

whole_at : (site : Site) (c : ℕ) (e : Exchange) (bytes : List ℕ) (s : Stage) → Ground site c e s → spells_answer site c e bytes (answer_at s) ≡ true → IsWholeAt site c e bytes s
whole_at site c e bytes (rejected cause) ground is = (ground, spelling_is bytes (fault_way site c e) (fault_reply_of cause) is)
whole_at site c e bytes (interrupted cause) ground is = (ground, spelling_is bytes (fault_way site c e) (fault_reply_of cause) is)
whole_at site c e bytes unready ground is = absurd (false≢true is)
whole_at site c e bytes (refused cause) ground is = spelling_is bytes (fault_way site c e) (fault_reply_of cause) is
whole_at site c e bytes (welcomed value request mapped) ground is = absurd (false≢true is)
whole_at site c e bytes (unstarted hop request mapped) ground is = absurd (false≢true is)
whole_at site c e bytes (running leg) ground is = absurd (false≢true is)
whole_at site c e bytes (broken_off leg None []) ground is = absurd (false≢true is)
whole_at site c e bytes (broken_off leg None (byte ∷ stood)) ground is = absurd (false≢true is)
whole_at site c e bytes (broken_off leg (Some cause) []) ground is = (ground, spelling_is bytes (fault_way site c e) (fault_reply_of cause) is)
whole_at site c e bytes (broken_off leg (Some cause) (byte ∷ stood)) ground is = absurd (false≢true is)
whole_at site c e bytes (answered leg (Output.Reply reply)) ground is = (ground, spelling_is bytes (way site c e) reply is)
whole_at site c e bytes (answered leg (Output.Raw output)) ground is = (ground, (bytes_eq-Decides bytes output).0 is)
whole_at site c e bytes (answered leg (Output.Bad cause)) ground is = (ground, spelling_is bytes (fault_way site c e) (fault_reply_of cause) is)
whole_at site c e bytes (answered leg (Output.Hop location)) ground is = absurd (false≢true is)

whole_final : (site : Site) (c : ℕ) (e : Exchange) (bytes : List ℕ) → is_whole_final site c e bytes ≡ true → IsWholeAt site c e bytes (stage site c e)
whole_final site c e [] is = absurd (false≢true is)
whole_final site c e (byte ∷ bytes) is = whole_at site c e (byte ∷ bytes) (stage site c e) (stage_grounded site c e) is

pub completed : (site : Site) (c : ℕ) (e : Exchange) → has_ended site c e ≡ true → IsCompleted site c e
completed site c e is = go (has_unsettled e.items c) refl is
  where
    go : (b : Bool) → has_unsettled e.items c ≡ b → ends_by site c e b ≡ true → IsCompleted site c e
    go true unsettled is = absurd (false≢true is)
    go false settled is =
        let parts = and_parts (starts_with nat_eq (written c e) (continue_part site c e)) (is_whole_final site c e (final site c e)) is in
        record {
          bytes = final site c e;
          wrote = (starts_is Decides-eqb (written c e) (continue_part site c e) _ refl).0 parts.0;
          whole = whole_final site c e (final site c e) parts.1;
          settled = settled;
        }

each_completed : (site : Site) (c : ℕ) (es : List Exchange) → AllByRecursion (Ended site c) es → AllByRecursion (IsCompleted site c) es
each_completed site c [] all = tt
each_completed site c (e ∷ es) all = (completed site c e all.0, each_completed site c es all.1)

pub answered_in_order : (site : Site) (c : ℕ) (L : List Item) → IsAnsweredInOrder site c L
answered_in_order site c L = record {
  wrote = written-exchanges site c L;
  each = each_completed site c (ended site c L) (ended-all site c L);
}
