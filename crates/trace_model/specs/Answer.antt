-- The answer of an exchange: the lines that may apply, in their order, and the walk along its hops.
use Rattle.std.specs.Prelude.{ℕ, zero, suc, Bool, true, false, List, [], ◌∷◌, map, Option, Some, None, Result, Ok, Err}
use Rattle.host_base.specs.declared.cause.Cause.{Cause}
use Rattle.host_base.specs.declared.cause.Cause.TheVariants.{RedirectLoop}
use Rattle.host_base.specs.declared.reply.Reply.{Reply}
use Rattle.host_base.specs.declared.request.Request.{Request}
use Rattle.host_base.specs.declared.site.Mapped.{Mapped}
use Rattle.host_base.specs.declared.site.ScriptKind.{ScriptKind}
use Rattle.host_base.specs.declared.site.ScriptKind.TheVariants.{Cgi, Nph, WebSocket}
use Rattle.host_base.specs.declared.site.Site.{Site}
use Rattle.host_trace.specs.declared.items.Item.{Item}
use Rattle.host_trace.specs.First.{last_of}
use Rattle.host_trace.specs.Projections.{child_out, children_of}
use Rattle.host_trace.specs.Decider.{Outcome, derived, failed, unanswered}
use Rattle.reply_kinds.specs.declared.derived.Derived.{Derived}
use Rattle.reply_kinds.specs.declared.derived.Derived.TheVariants as Output
use Rattle.reply_kinds.specs.Derived.{derived_of}
use Rattle.request_reader.specs.Request.{Reading, Whole, More, Bad, redirected}
use Rattle.script_map.specs.Redirects.{redirected_target}
use Rattle.ws_handshake.specs.Handshake.{handshake}
use Rattle.trace_child.specs.Words.{is_filled}
use Rattle.trace_child.specs.Decided.{decided_at, outcome_at}
use Rattle.trace_model.specs.Readings.{if_length}
use Rattle.trace_model.specs.Exchange.{Exchange, up_to, reading, final}
use Rattle.trace_model.specs.Breaks.{broken, break_cause}
use Rattle.trace_model.specs.Places.{place_of, kind_of, origins_of}
use Rattle.trace_model.specs.Legs.{Leg, leg_of, run_of}

-- ---- where an exchange stands, by the first line that applies

pub data Stage : Type 0 where
  -- first: the request is refused as it is read
  rejected : Cause → Stage
  -- second: it was broken
  interrupted : Cause → Stage
  -- third: it is not startable
  unready : Stage
  -- fourth: its target has no script or its handshake is refused; or there is one local redirect too many
  refused : Cause → Stage
  -- .. its handshake is accepted, with this value
  welcomed : List ℕ → Request → Mapped → Stage
  -- fifth: the script of this hop was not started yet
  unstarted : ℕ → Request → Mapped → Stage
  -- .. it runs, and nothing has decided its run
  running : Leg → Stage
  -- .. its run was decided by something else than the end of its output, which gives a cause or none; this stood of the
  -- final answer then
  broken_off : Leg → Option Cause → List ℕ → Stage
  -- .. its whole output derives this, which is no local redirect
  answered : Leg → Derived → Stage

-- the legs in the order of their hops, and where the walk stands
pub record Walk : Type 0 where
  pub legs : List Leg
  pub stage : Stage

abbrev pub stopped_at : Stage → Walk
stopped_at stage = record { legs = []; stage = stage }

abbrev pub with_leg : Leg → Walk → Walk
with_leg leg walk = record { legs = leg ∷ walk.legs; stage = walk.stage }

-- the whole output: a local redirect leads to the next hop
abbrev pub at_output : Leg → (List ℕ → Walk) → Derived → Walk
at_output leg next (Output.Hop location) = next location
at_output leg next (Output.Reply reply) = stopped_at (answered leg (Output.Reply reply))
at_output leg next (Output.Raw bytes) = stopped_at (answered leg (Output.Raw bytes))
at_output leg next (Output.Bad cause) = stopped_at (answered leg (Output.Bad cause))

abbrev pub at_outcome : Site → ℕ → Exchange → Leg → (List ℕ → Walk) → List Item → Outcome → Walk
at_outcome site c e leg next front derived = at_output leg next (derived_of leg.kind (child_out front leg.child))
at_outcome site c e leg next front (failed cause) = stopped_at (broken_off leg (Some cause) (final site c (up_to e front)))
at_outcome site c e leg next front unanswered = stopped_at (broken_off leg None (final site c (up_to e front)))

abbrev pub at_decider : Site → ℕ → Exchange → Leg → (List ℕ → Walk) → List Item → Option Item → Walk
at_decider site c e leg next front None = stopped_at (running leg)
at_decider site c e leg next front (Some x) = at_outcome site c e leg next front (outcome_at (run_of site c e leg) x)

abbrev pub at_run : Site → ℕ → Exchange → Leg → (List ℕ → Walk) → Option (List Item) → Walk
at_run site c e leg next None = stopped_at (running leg)
at_run site c e leg next (Some front) = at_decider site c e leg next front (last_of front)

abbrev pub at_leg : Site → ℕ → Exchange → (List ℕ → Walk) → Leg → Walk
at_leg site c e next leg = with_leg leg (at_run site c e leg next (decided_at (run_of site c e leg) e.items))

abbrev pub at_start : Site → ℕ → Exchange → ℕ → Request → Mapped → ScriptKind → (List ℕ → Walk) → List ℕ → Walk
at_start site c e hop request mapped kind next [] = stopped_at (unstarted hop request mapped)
at_start site c e hop request mapped kind next (k ∷ ks) = at_leg site c e next (leg_of hop kind request k)

-- (RFC 6455 4.2.2)
abbrev pub at_handshake : ℕ → Exchange → ℕ → Request → Mapped → Result (List ℕ) Cause → Walk
at_handshake c e hop request mapped (Err cause) = stopped_at (refused cause)
at_handshake c e hop request mapped (Ok value) = record {
  legs = map (leg_of hop WebSocket request) (children_of e.items c e.number hop);
  stage = welcomed value request mapped;
}

abbrev pub at_script : Site → ℕ → Exchange → ℕ → Request → Mapped → (List ℕ → Walk) → ScriptKind → Walk
at_script site c e hop request mapped next WebSocket = at_handshake c e hop request mapped (handshake request (origins_of site mapped))
at_script site c e hop request mapped next Cgi = at_start site c e hop request mapped Cgi next (children_of e.items c e.number hop)
at_script site c e hop request mapped next Nph = at_start site c e hop request mapped Nph next (children_of e.items c e.number hop)

abbrev pub at_place : Site → ℕ → Exchange → ℕ → Request → (List ℕ → Walk) → Result Mapped Cause → Walk
at_place site c e hop request next (Err cause) = stopped_at (refused cause)
at_place site c e hop request next (Ok mapped) = at_script site c e hop request mapped next (kind_of site mapped)

abbrev pub at_hop : Site → ℕ → Exchange → ℕ → Request → (List ℕ → Walk) → Walk
at_hop site c e hop request next = at_place site c e hop request next (place_of site request)

-- the request that a local redirect asks for in the client's place (RFC 3875 6.2.2)
abbrev pub request_of_hop : Request → List ℕ → Request
request_of_hop request location = redirected request (redirected_target location request.target)

-- the fourth and the fifth line: the walk from a hop on, with so many local redirects left
abbrev pub walk_from : Site → ℕ → Exchange → ℕ → ℕ → Request → Walk
walk_from site c e zero hop request = at_hop site c e hop request (λ location. stopped_at (refused RedirectLoop))
walk_from site c e (suc left) hop request =
    at_hop site c e hop request (λ location. walk_from site c e left (suc hop) (request_of_hop request location))

-- the second and the third line
abbrev pub walk_by_break : Site → ℕ → Exchange → Option (List Item) → Option Request → Walk
walk_by_break site c e (Some front) request = stopped_at (interrupted (break_cause front))
walk_by_break site c e None None = stopped_at unready
walk_by_break site c e None (Some request) = walk_from site c e site.limits.redirects 0 request

-- the first line
abbrev pub walk_by : Site → ℕ → Exchange → Reading → Walk
walk_by site c e (Bad cause bare) = stopped_at (rejected cause)
walk_by site c e (Whole request used due) = walk_by_break site c e (broken site c e) (Some request)
walk_by site c e (More request due) = walk_by_break site c e (broken site c e) (if_length request)

abbrev pub walk : Site → ℕ → Exchange → Walk
walk site c e = walk_by site c e (reading site c e)

abbrev pub stage : Site → ℕ → Exchange → Stage
stage site c e = (walk site c e).stage

abbrev pub legs : Site → ℕ → Exchange → List Leg
legs site c e = (walk site c e).legs

-- ---- the answer

-- a reply of a script; a reply that is its output as it is; the host's own reply for a cause; a WebSocket; a reply that
-- can't be finished, for a cause or none; no answer; or none yet
pub data Answer : Type 0 where
  replied : Reply → Answer
  given_raw : List ℕ → Answer
  faulted : Cause → Answer
  talking : List ℕ → Answer
  cut_off : Option Cause → Answer
  no_answer undecided : Answer

abbrev pub answer_of_output : Derived → Answer
answer_of_output (Output.Reply reply) = replied reply
answer_of_output (Output.Raw bytes) = given_raw bytes
answer_of_output (Output.Bad cause) = faulted cause
answer_of_output (Output.Hop location) = undecided

-- by whether a byte of the final answer stood
abbrev pub answer_of_failure : Option Cause → Bool → Answer
answer_of_failure cause true = cut_off cause
answer_of_failure None false = no_answer
answer_of_failure (Some cause) false = faulted cause

abbrev pub answer_at : Stage → Answer
answer_at (rejected cause) = faulted cause
answer_at (interrupted cause) = faulted cause
answer_at unready = undecided
answer_at (refused cause) = faulted cause
answer_at (welcomed value request mapped) = talking value
answer_at (unstarted hop request mapped) = undecided
answer_at (running leg) = undecided
answer_at (broken_off leg cause stood) = answer_of_failure cause (is_filled stood)
answer_at (answered leg output) = answer_of_output output

abbrev pub answer : Site → ℕ → Exchange → Answer
answer site c e = answer_at (stage site c e)

-- there is a whole reply to write
abbrev pub is_final : Answer → Bool
is_final (replied reply) = true
is_final (given_raw bytes) = true
is_final (faulted cause) = true
is_final (talking value) = false
is_final (cut_off cause) = false
is_final no_answer = false
is_final undecided = false

abbrev pub is_undecided : Answer → Bool
is_undecided (replied reply) = false
is_undecided (given_raw bytes) = false
is_undecided (faulted cause) = false
is_undecided (talking value) = false
is_undecided (cut_off cause) = false
is_undecided no_answer = false
is_undecided undecided = true
