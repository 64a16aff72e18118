-- The ground of each stage of an exchange, read off the walk along its hops.
use Rattle.std.proofs.Common.{◌≡◌, ℕ, zero, suc, List, [], ◌∷◌, ◌++◌, Option, Some, None, Result, Ok, Err, refl, sym, ap, ◌∙◌, subst, arith}
use Rattle.std.specs.Prelude.{◌+◌}
use Rattle.host_base.specs.declared.cause.Cause.{Cause}
use Rattle.host_base.specs.declared.request.Request.{Request}
use Rattle.host_base.specs.declared.site.Mapped.{Mapped}
use Rattle.host_base.specs.declared.site.ScriptKind.{ScriptKind}
use Rattle.host_base.specs.declared.site.ScriptKind.TheVariants.{Cgi, Nph, WebSocket}
use Rattle.host_base.specs.declared.site.Site.{Site}
use Rattle.host_trace.specs.declared.items.Event.TheVariants.{ChildEof}
use Rattle.host_trace.specs.declared.items.Item.{Item}
use Rattle.host_trace.specs.declared.items.Item.TheVariants.{In}
use Rattle.host_trace.specs.Decider.{Outcome, derived, failed, unanswered}
use Rattle.host_trace.specs.Projections.{child_out, children_of}
use Rattle.reply_kinds.specs.declared.derived.Derived.{Derived}
use Rattle.reply_kinds.specs.declared.derived.Derived.TheVariants as Output
use Rattle.reply_kinds.specs.Derived.{derived_of}
use Rattle.request_reader.specs.Request.{Reading, Whole, More, Bad}
use Rattle.ws_handshake.specs.Handshake.{handshake}
use Rattle.trace_child.specs.Decided.{decided_at, decides_run, outcome_at}
use Rattle.trace_child.proofs.DecidedLaws.{Found, found}
use Rattle.trace_model.specs.Readings.{if_length, startable}
use Rattle.trace_model.specs.Exchange.{Exchange, final, reading, up_to}
use Rattle.trace_model.specs.Breaks.{break_cause, break_cause_by, breaks, broken}
use Rattle.trace_model.specs.Places.{kind_of, origins_of, place_of}
use Rattle.trace_model.specs.Legs.{Leg, leg_of, run_of}
use Rattle.trace_model.specs.Answer.{Stage, rejected, interrupted, unready, refused, welcomed, unstarted, running, broken_off, answered, Walk, walk_by, walk_by_break, walk_from, at_place, at_script, at_handshake, at_start, at_run, at_decider, at_outcome, at_output, request_of_hop, stage}
use Rattle.promise_laws.specs.Grounds.{HasOutput, IsCause, by_item, by_request, by_run, by_target, IsInterrupted, IsLed, IsLegOf, IsRefusedFor, by_handshake, by_place, by_redirects, IsRun}
use Rattle.promise_laws.specs.Replies.{IsAccepted}
use Rattle.promise_laws.proofs.RunLaws.{HasHop, breakable_is, ends_by, fails_by, found_within, hop_start, interrupts_by, last_found, out_at_end, was_breakable}

-- the whole output of the leg's child derives this
pub record HasDerived (site : Site) (c : ℕ) (e : Exchange) (leg : Leg) (is : Derived) : Type 0 where
  pub output : List ℕ
  pub ended : HasOutput site c e leg output
  pub derives : derived_of leg.kind output ≡ is

-- an item decided the leg's run, and this stood of the final answer then
pub record IsStopped (site : Site) (c : ℕ) (e : Exchange) (leg : Leg) (stood : List ℕ) : Type 0 where
  pub before : List Item
  pub item : Item
  pub later : List Item
  pub stands : e.items ≡ before ++ item ∷ later
  pub undecided : decided_at (run_of site c e leg) before ≡ None
  pub stood_is : stood ≡ final site c (up_to e (before ++ item ∷ []))

abbrev pub Ground : Site → ℕ → Exchange → Stage → Type 0
Ground site c e (rejected cause) = IsCause site c e cause
Ground site c e (interrupted cause) = IsCause site c e cause
Ground site c e unready = Unit {0}
Ground site c e (refused cause) = IsCause site c e cause
Ground site c e (welcomed value request mapped) = IsAccepted site c e value
Ground site c e (unstarted hop request mapped) = Unit {0}
Ground site c e (running leg) = IsRun site c e leg × (decided_at (run_of site c e leg) e.items ≡ None)
Ground site c e (broken_off leg None stood) = IsRun site c e leg × IsStopped site c e leg stood
Ground site c e (broken_off leg (Some cause) stood) = IsRun site c e leg × IsStopped site c e leg stood × IsCause site c e cause
Ground site c e (answered leg (Output.Hop location)) = ⊥
Ground site c e (answered leg (Output.Reply reply)) = IsRun site c e leg × HasDerived site c e leg (Output.Reply reply)
Ground site c e (answered leg (Output.Raw output)) = IsRun site c e leg × HasDerived site c e leg (Output.Raw output)
Ground site c e (answered leg (Output.Bad cause)) = IsRun site c e leg × HasDerived site c e leg (Output.Bad cause)

abbrev Grounded : Site → ℕ → Exchange → Walk → Type 0
Grounded site c e walk = Ground site c e walk.stage

module _ (site : Site) (c : ℕ) (e : Exchange) (hop : ℕ) (request : Request) (led : IsLed site c e hop request) (next : List ℕ → Walk)
    (each : (leg : Leg) → IsLegOf site c e hop request leg → (location : List ℕ) → HasDerived site c e leg (Output.Hop location) → Grounded site c e (next location)) where
  output_grounded : (leg : Leg) → IsLegOf site c e hop request leg → IsRun site c e leg → (is : Derived) → HasDerived site c e leg is → Grounded site c e (at_output leg next is)
  output_grounded leg ran run (Output.Hop location) has = each leg ran location has
  output_grounded leg ran run (Output.Reply reply) has = (run, has)
  output_grounded leg ran run (Output.Raw bytes) has = (run, has)
  output_grounded leg ran run (Output.Bad cause) has = (run, has)

  stopped : (leg : Leg) (front : List Item) (f : Found (decides_run (run_of site c e leg)) [] e.items front) → IsStopped site c e leg (final site c (up_to e front))
  stopped leg front f = record {
    before = f.before;
    item = f.item;
    later = f.later;
    stands = found_within f;
    undecided = f.no_earlier;
    stood_is = ap (λ (l : List Item). final site c (up_to e l)) f.ends;
  }

  ended_here : (leg : Leg) (front : List Item) (f : Found (decides_run (run_of site c e leg)) [] e.items front) → outcome_at (run_of site c e leg) f.item ≡ derived
      → HasOutput site c e leg (child_out front leg.child)
  ended_here leg front f is =
      let end : f.item ≡ In (ChildEof leg.child) = ends_by (run_of site c e leg) f.item is in
      record {
        before = f.before;
        later = f.later;
        ends = found_within f ∙ ap (λ (x : Item). f.before ++ x ∷ f.later) end;
        undecided = f.no_earlier;
        whole = sym (ap (λ (l : List Item). child_out l leg.child) (f.ends ∙ ap (λ (x : Item). f.before ++ x ∷ []) end) ∙ out_at_end f.before leg.child);
      }

  outcome_grounded : (leg : Leg) → IsLegOf site c e hop request leg → IsRun site c e leg → (front : List Item) (f : Found (decides_run (run_of site c e leg)) [] e.items front)
      → (o : Outcome) → outcome_at (run_of site c e leg) f.item ≡ o → Grounded site c e (at_outcome site c e leg next front o)
  outcome_grounded leg ran run front f derived is =
      output_grounded leg ran run (derived_of leg.kind (child_out front leg.child))
      (record { output = child_out front leg.child; ended = ended_here leg front f is; derives = refl })
  outcome_grounded leg ran run front f (failed cause) is = (
    run,
    stopped leg front f,
    by_run leg run (record {
      before = f.before;
      item = f.item;
      later = f.later;
      stands = found_within f;
      undecided = f.no_earlier;
      fails = fails_by (run_of site c e leg) f.before f.item cause f.passes is;
    }),
  )
  outcome_grounded leg ran run front f unanswered is = (run, stopped leg front f)

  run_grounded : (leg : Leg) → IsLegOf site c e hop request leg → IsRun site c e leg → (o : Option (List Item)) → decided_at (run_of site c e leg) e.items ≡ o
      → Grounded site c e (at_run site c e leg next o)
  run_grounded leg ran run None is = (run, is)
  run_grounded leg ran run (Some front) is =
      let f : Found (decides_run (run_of site c e leg)) [] e.items front = found (decides_run (run_of site c e leg)) [] e.items front is in
      subst (λ (o : Option Item). Grounded site c e (at_decider site c e leg next front o)) (sym (last_found f))
      (outcome_grounded leg ran run front f (outcome_at (run_of site c e leg) f.item) refl)

  start_grounded : (mapped : Mapped) (kind : ScriptKind) → place_of site request ≡ Ok mapped → kind_of site mapped ≡ kind → (ks : List ℕ)
      → children_of e.items c e.number hop ≡ ks → Grounded site c e (at_start site c e hop request mapped kind next ks)
  start_grounded mapped kind place kind_is [] is = tt
  start_grounded mapped kind place kind_is (k ∷ ks) is =
      let start : HasHop c e.number hop e.items k = hop_start c e.number hop e.items k ks is in
      let leg : Leg = leg_of hop kind request k in
      let ran : IsLegOf site c e hop request (leg_of hop kind request k) = record {
        mapped = mapped;
        place = place;
        kind = kind_is;
        hop_is = refl;
        request_is = refl;
        before = start.before;
        launch = start.launch;
        later = start.later;
        started = start.stands;
      } in
      run_grounded (leg_of hop kind request k) ran (record { led = led; ran = ran }) (decided_at (run_of site c e (leg_of hop kind request k)) e.items) refl

  refused_by : (cause : Cause) → IsRefusedFor site hop request cause → IsCause site c e cause
  refused_by cause why = by_target (record { hop = hop; request = request; led = led; why = why })

  handshake_grounded : (mapped : Mapped) → place_of site request ≡ Ok mapped → kind_of site mapped ≡ WebSocket → (value : Result (List ℕ) Cause)
      → handshake request (origins_of site mapped) ≡ value → Grounded site c e (at_handshake c e hop request mapped value)
  handshake_grounded mapped place kind_is (Ok value) is =
      record { hop = hop; request = request; led = led; mapped = mapped; place = place; kind = kind_is; taken = is }
  handshake_grounded mapped place kind_is (Err cause) is = refused_by cause (by_handshake mapped place kind_is is)

  script_grounded : (mapped : Mapped) → place_of site request ≡ Ok mapped → (kind : ScriptKind) → kind_of site mapped ≡ kind
      → Grounded site c e (at_script site c e hop request mapped next kind)
  script_grounded mapped place WebSocket kind_is = handshake_grounded mapped place kind_is (handshake request (origins_of site mapped)) refl
  script_grounded mapped place Cgi kind_is = start_grounded mapped Cgi place kind_is (children_of e.items c e.number hop) refl
  script_grounded mapped place Nph kind_is = start_grounded mapped Nph place kind_is (children_of e.items c e.number hop) refl

  place_grounded : (place : Result Mapped Cause) → place_of site request ≡ place → Grounded site c e (at_place site c e hop request next place)
  place_grounded (Err cause) is = refused_by cause (by_place is)
  place_grounded (Ok mapped) is = script_grounded mapped is (kind_of site mapped) refl

-- a local redirect leads to the request of the next hop
led_on : (site : Site) (c : ℕ) (e : Exchange) (hop : ℕ) (request : Request) → IsLed site c e hop request → (leg : Leg) → IsLegOf site c e hop request leg → (location : List ℕ)
    → HasDerived site c e leg (Output.Hop location) → IsLed site c e (suc hop) (request_of_hop request location)
led_on site c e hop request led leg ran location has = record {
  from = request;
  led = led;
  leg = leg;
  ran = ran;
  output = has.output;
  ended = has.ended;
  location = location;
  redirects = has.derives;
  asks = refl;
}

from_grounded : (site : Site) (c : ℕ) (e : Exchange) (left hop : ℕ) (request : Request) → left + hop ≡ site.limits.redirects → IsLed site c e hop request
    → Grounded site c e (walk_from site c e left hop request)
from_grounded site c e zero hop request all led =
    place_grounded site c e hop request led _
    (λ leg ran location has. by_target (record {
      hop = suc hop;
      request = request_of_hop request location;
      led = led_on site c e hop request led leg ran location has;
      why = by_redirects (omega (arith, all)) refl;
    }))
    (place_of site request) refl
from_grounded site c e (suc left) hop request all led =
    place_grounded site c e hop request led _
    (λ leg ran location has. from_grounded site c e left (suc hop) (request_of_hop request location) (omega (arith, all)) (led_on site c e hop request led leg ran location has))
    (place_of site request) refl

interrupted_by : (site : Site) (c : ℕ) (e : Exchange) (front : List Item) → broken site c e ≡ Some front → IsInterrupted site c e (break_cause front)
interrupted_by site c e front is =
    let f : Found (breaks site c e) [] e.items front = found (breaks site c e) [] e.items front is in
    let was = breakable_is site c e f.before (was_breakable site c e f.before f.item f.passes) in
    record {
      before = f.before;
      item = f.item;
      later = f.later;
      stands = found_within f;
      begun = was.begun;
      undone = was.undone;
      first = f.no_earlier;
      interrupts = interrupts_by site c e f.before f.item (break_cause front) f.passes (sym (ap break_cause_by (last_found f)));
    }

break_grounded : (site : Site) (c : ℕ) (e : Exchange) (o : Option (List Item)) → broken site c e ≡ o → (request : Option Request) → startable (reading site c e) ≡ request
    → Grounded site c e (walk_by_break site c e o request)
break_grounded site c e (Some front) is request start = by_item (interrupted_by site c e front is)
break_grounded site c e None is None start = tt
break_grounded site c e None is (Some request) start = from_grounded site c e site.limits.redirects 0 request (omega arith) start

by_grounded : (site : Site) (c : ℕ) (e : Exchange) (r : Reading) → reading site c e ≡ r → Grounded site c e (walk_by site c e r)
by_grounded site c e (Bad cause bare) is = by_request bare is
by_grounded site c e (Whole request used due) is = break_grounded site c e (broken site c e) refl (Some request) (ap startable is)
by_grounded site c e (More request due) is = break_grounded site c e (broken site c e) refl (if_length request) (ap startable is)

pub stage_grounded : (site : Site) (c : ℕ) (e : Exchange) → Ground site c e (stage site c e)
stage_grounded site c e = by_grounded site c e (reading site c e) refl
