-- Where local redirects led to a hop, the walk goes on there; and the hop stays reached.
use Rattle.std.proofs.Common.{◌≡◌, ◌≤◌, ℕ, zero, suc, Bool, true, false, List, [], ◌∷◌, ◌++◌, Option, Some, None, Result, Ok, Err, refl, sym, ap, subst, ◌∙◌, arith}
use Rattle.std.specs.Prelude.{if◌then◌else◌}
use Rattle.std.proofs.lemmas.Bool.{false≢true}
use Rattle.host_base.specs.declared.cause.Cause.{Cause}
use Rattle.host_base.specs.declared.cause.Cause.TheVariants.{RedirectLoop}
use Rattle.host_base.specs.declared.reply.Reply.{Reply}
use Rattle.host_base.specs.declared.request.Request.{Request}
use Rattle.host_base.specs.declared.site.Mapped.{Mapped}
use Rattle.host_base.specs.declared.site.ScriptKind.{ScriptKind}
use Rattle.host_base.specs.declared.site.ScriptKind.TheVariants.{Cgi, Nph, WebSocket}
use Rattle.host_base.specs.declared.site.Site.{Site}
use Rattle.host_trace.specs.declared.items.Item.{Item}
use Rattle.host_trace.specs.Decider.{Outcome, derived, failed, unanswered, is_websocket}
use Rattle.host_trace.specs.First.{last_of}
use Rattle.host_trace.specs.Kinds.{child_of}
use Rattle.host_trace.specs.Projections.{child_out, children_of}
use Rattle.host_trace.proofs.FirstLaws.{flat_map-push, or_else-some}
use Rattle.reply_kinds.specs.declared.derived.Derived.{Derived}
use Rattle.reply_kinds.specs.declared.derived.Derived.TheVariants as Output
use Rattle.reply_kinds.specs.Derived.{derived_of}
use Rattle.request_reader.specs.Request.{Reading, Whole, More, Bad, is_length, with_body}
use Rattle.request_reader.specs.RequestLaws.{Becomes}
use Rattle.trace_child.specs.Decided.{decided_at, outcome_at}
use Rattle.trace_child.proofs.DecidedLaws.{decided_at-push}
use Rattle.trace_model.specs.Readings.{if_length, startable}
use Rattle.trace_model.specs.Exchange.{Exchange, pushed, up_to, reading, final}
use Rattle.trace_model.specs.Breaks.{broken}
use Rattle.trace_model.specs.Places.{place_of, kind_of}
use Rattle.trace_model.specs.Legs.{Leg, leg_of, run_of}
use Rattle.trace_model.specs.Answer.{Walk, Stage, refused, unstarted, running, broken_off, answered, walk, walk_by, walk_by_break, walk_from, stage, stopped_at, at_hop, at_place, at_script, at_start, at_leg, at_run, at_decider, at_outcome, at_output, request_of_hop, with_leg}
use Rattle.trace_model.proofs.AnswerLaws.{grown}
use Rattle.conn_laws.specs.Hops.{IsStarted, LeadsOn, Leads, Reaches, SameLegs, StillReaches, with_legs}
use Rattle.conn_laws.specs.Laws.{IsDecidedBy, StandsAs}

-- ---- a hop

-- the walk at a hop whose script was started
started_at : (site : Site) (c : ℕ) (e : Exchange) (hop : ℕ) (request : Request) (next : List ℕ → Walk) (leg : Leg) → IsStarted site c e hop request leg
    → at_hop site c e hop request next ≡ at_leg site c e next leg
started_at site c e hop request next leg s =
    ap (at_place site c e hop request next) s.place
    ∙ (ap (at_script site c e hop request s.mapped next) s.kind
    ∙ (by_kind leg.kind s.plain
    ∙ (ap (at_start site c e hop request s.mapped leg.kind next) s.child
    ∙ ap (at_leg site c e next) (sym s.same))))
  where
    by_kind : (kind : ScriptKind) → is_websocket kind ≡ false
        → at_script site c e hop request s.mapped next kind ≡ at_start site c e hop request s.mapped kind next (children_of e.items c e.number hop)
    by_kind WebSocket plain = absurd (false≢true (sym plain))
    by_kind Cgi plain = refl
    by_kind Nph plain = refl

decided_as : (site : Site) (c : ℕ) (e : Exchange) (next : List ℕ → Walk) (leg : Leg) (front : List Item) (item : Item)
    → decided_at (run_of site c e leg) e.items ≡ Some front → last_of front ≡ Some item
    → at_leg site c e next leg ≡ with_leg leg (at_outcome site c e leg next front (outcome_at (run_of site c e leg) item))
decided_as site c e next leg front item d l =
    ap (λ o. with_leg leg (at_run site c e leg next o)) d ∙ ap (λ o. with_leg leg (at_decider site c e leg next front o)) l

leads_at : (site : Site) (c : ℕ) (e : Exchange) (hop : ℕ) (request : Request) (next : List ℕ → Walk) (leg : Leg) (location : List ℕ)
    → LeadsOn site c e hop request leg location → at_hop site c e hop request next ≡ with_leg leg (next location)
leads_at site c e hop request next leg location l =
    started_at site c e hop request next leg l.started
    ∙ (decided_as site c e next leg l.front l.item l.decided l.last
    ∙ (ap (λ o. with_leg leg (at_outcome site c e leg next l.front o)) l.by_output
    ∙ ap (λ o. with_leg leg (at_output leg next o)) l.derives))

-- ---- from hop to hop

leads_walk : (site : Site) (c : ℕ) (e : Exchange) (left hop : ℕ) (request : Request) (legs : List Leg) (left' hop' : ℕ) (request' : Request)
    → Leads site c e left hop request legs left' hop' request'
    → walk_from site c e left hop request ≡ with_legs legs (walk_from site c e left' hop' request')
leads_walk site c e left hop request [] left' hop' request' l =
    ap (λ n. walk_from site c e n hop request) l.0
    ∙ (ap (λ n. walk_from site c e left' n request) l.1 ∙ ap (walk_from site c e left' hop') l.2)
leads_walk site c e zero hop request (leg ∷ legs) left' hop' request' l = absurd l
leads_walk site c e (suc left) hop request (leg ∷ legs) left' hop' request' l =
    leads_at site c e hop request (λ location. walk_from site c e left (suc hop) (request_of_hop request location)) leg l.0 l.1
    ∙ ap (with_leg leg) (leads_walk site c e left (suc hop) (request_of_hop request l.0) legs left' hop' request' l.2)

by_start : (site : Site) (c : ℕ) (e : Exchange) (r : Reading) (first : Request) → startable r ≡ Some first → broken site c e ≡ None
    → walk_by site c e r ≡ walk_from site c e site.limits.redirects 0 first
by_start site c e (Whole request used due) first s b =
    ap (λ o. walk_by_break site c e o (Some request)) b ∙ ap (λ o. walk_by_break site c e None o) s
by_start site c e (More request due) first s b =
    ap (λ o. walk_by_break site c e o (if_length request)) b ∙ ap (λ o. walk_by_break site c e None o) s
by_start site c e (Bad cause bare) first s b = absurd (cc)

pub reaches_walk : (site : Site) (c : ℕ) (e : Exchange) (legs : List Leg) (left hop : ℕ) (request : Request) → Reaches site c e legs left hop request
    → walk site c e ≡ with_legs legs (walk_from site c e left hop request)
reaches_walk site c e legs left hop request r =
    by_start site c e (reading site c e) r.first r.start r.unbroken
    ∙ leads_walk site c e site.limits.redirects 0 r.first legs left hop request r.leads

stage_with : (legs : List Leg) (w : Walk) → (with_legs legs w).stage ≡ w.stage
stage_with [] w = refl
stage_with (leg ∷ legs) w = stage_with legs w

pub reaches_stage : (site : Site) (c : ℕ) (e : Exchange) (legs : List Leg) (left hop : ℕ) (request : Request) → Reaches site c e legs left hop request
    → stage site c e ≡ (walk_from site c e left hop request).stage
reaches_stage site c e legs left hop request r =
    ap (λ (w : Walk). w.stage) (reaches_walk site c e legs left hop request r) ∙ stage_with legs (walk_from site c e left hop request)

-- ---- what stands at a hop

-- what a walk does with a local redirect, by how many are left
abbrev next_by : Site → ℕ → Exchange → ℕ → ℕ → Request → List ℕ → Walk
next_by site c e zero hop request location = stopped_at (refused RedirectLoop)
next_by site c e (suc left) hop request location = walk_from site c e left (suc hop) (request_of_hop request location)

from_hop : (site : Site) (c : ℕ) (e : Exchange) (left hop : ℕ) (request : Request) → walk_from site c e left hop request ≡ at_hop site c e hop request (next_by site c e left hop request)
from_hop site c e zero hop request = refl
from_hop site c e (suc left) hop request = refl

module _ (site : Site) (c : ℕ) (e : Exchange) (left hop : ℕ) (request : Request) (is : stage site c e ≡ (walk_from site c e left hop request).stage) where
  abbrev next : List ℕ → Walk
  next = next_by site c e left hop request

  at_it : stage site c e ≡ (at_hop site c e hop request next).stage
  at_it = is ∙ ap (λ (w : Walk). w.stage) (from_hop site c e left hop request)

  unstarted_at : (mapped : Mapped) (kind : ScriptKind) → is_websocket kind ≡ false → children_of e.items c e.number hop ≡ []
      → at_script site c e hop request mapped next kind ≡ stopped_at (unstarted hop request mapped)
  unstarted_at mapped WebSocket plain none = absurd (false≢true (sym plain))
  unstarted_at mapped Cgi plain none = ap (at_start site c e hop request mapped Cgi next) none
  unstarted_at mapped Nph plain none = ap (at_start site c e hop request mapped Nph next) none

  by_leg : (leg : Leg) → IsStarted site c e hop request leg → stage site c e ≡ (at_leg site c e next leg).stage
  by_leg leg s = at_it ∙ ap (λ (w : Walk). w.stage) (started_at site c e hop request next leg s)

  by_outcome : (leg : Leg) (front : List Item) (item : Item) (o : Outcome) → IsStarted site c e hop request leg → IsDecidedBy site c e leg front item
      → outcome_at (run_of site c e leg) item ≡ o → stage site c e ≡ (at_outcome site c e leg next front o).stage
  by_outcome leg front item o s d out =
      by_leg leg s
      ∙ (ap (λ (w : Walk). w.stage) (decided_as site c e next leg front item d.decided d.last)
      ∙ ap (λ o. (at_outcome site c e leg next front o).stage) out)

  by_output : (leg : Leg) (front : List Item) (item : Item) (output : Derived) → IsStarted site c e hop request leg → IsDecidedBy site c e leg front item
      → outcome_at (run_of site c e leg) item ≡ derived → derived_of leg.kind (child_out front leg.child) ≡ output
      → stage site c e ≡ (at_output leg next output).stage
  by_output leg front item output s d out is_it =
      by_outcome leg front item derived s d out ∙ ap (λ o. (at_output leg next o).stage) is_it

  stands_as : StandsAs site c e left hop request
  stands_as = record {
    no_script = λ cause p. at_it ∙ ap (λ o. (at_place site c e hop request next o).stage) p;
    not_started = λ mapped p plain none.
        at_it ∙ (ap (λ o. (at_place site c e hop request next o).stage) p ∙ ap (λ (w : Walk). w.stage) (unstarted_at mapped (kind_of site mapped) plain none));
    runs = λ leg s none. by_leg leg s ∙ ap (λ o. (at_run site c e leg next o).stage) none;
    fails = λ leg front item cause s d out. by_outcome leg front item (failed cause) s d out;
    ends = λ leg front item s d out. by_outcome leg front item unanswered s d out;
    replies = λ leg front item reply s d out is_it. by_output leg front item (Output.Reply reply) s d out is_it;
    raw = λ leg front item bytes s d out is_it. by_output leg front item (Output.Raw bytes) s d out is_it;
    bad = λ leg front item cause s d out is_it. by_output leg front item (Output.Bad cause) s d out is_it;
    loops = λ leg location none l.
        at_it
        ∙ (ap (λ (w : Walk). w.stage) (leads_at site c e hop request next leg location l)
        ∙ ap (λ n. (next_by site c e n hop request location).stage) none);
  }

pub reaches_stands : (site : Site) (c : ℕ) (e : Exchange) (legs : List Leg) (left hop : ℕ) (request : Request) → Reaches site c e legs left hop request
    → StandsAs site c e left hop request
reaches_stands site c e legs left hop request r = stands_as site c e left hop request (reaches_stage site c e legs left hop request r)

-- ---- the next hop

leads_next : (site : Site) (c : ℕ) (e : Exchange) (left hop : ℕ) (request : Request) (legs : List Leg) (left' hop' : ℕ) (request' : Request) (leg : Leg) (location : List ℕ)
    → Leads site c e left hop request legs (suc left') hop' request' → LeadsOn site c e hop' request' leg location
    → Leads site c e left hop request (legs ++ leg ∷ []) left' (suc hop') (request_of_hop request' location)
leads_next site c e zero hop request [] left' hop' request' leg location l on = absurd (cc)
leads_next site c e (suc left) hop request [] left' hop' request' leg location l on =
    let same_left : left ≡ left' = omega (arith, l.0) in
    let here : LeadsOn site c e hop request leg location =
    subst (λ n. LeadsOn site c e n request leg location) (sym l.1) (subst (λ r. LeadsOn site c e hop' r leg location) (sym l.2) on) in
    (location, here, (same_left, ap suc l.1, ap (λ r. request_of_hop r location) l.2))
leads_next site c e zero hop request (first ∷ legs) left' hop' request' leg location l on = absurd l
leads_next site c e (suc left) hop request (first ∷ legs) left' hop' request' leg location l on =
    (l.0, l.1, leads_next site c e left (suc hop) (request_of_hop request l.0) legs left' hop' request' leg location l.2 on)

pub reaches_next : (site : Site) (c : ℕ) (e : Exchange) (legs : List Leg) (left hop : ℕ) (request : Request) (leg : Leg) (location : List ℕ)
    → Reaches site c e legs (suc left) hop request → LeadsOn site c e hop request leg location
    → Reaches site c e (legs ++ leg ∷ []) left (suc hop) (request_of_hop request location)
reaches_next site c e legs left hop request leg location r on = record {
  first = r.first;
  start = r.start;
  unbroken = r.unbroken;
  leads = leads_next site c e site.limits.redirects 0 r.first legs left hop request leg location r.leads on;
}

-- ---- one item more

module _ (site : Site) (c : ℕ) (e : Exchange) (x : Item) where
  leg_with : Leg → List ℕ → Leg
  leg_with leg body = record leg { request = with_body leg.request body }

  started_still : (hop : ℕ) (request : Request) (leg : Leg) (body : List ℕ) → IsStarted site c e hop request leg
      → IsStarted site c (pushed e x) hop (with_body request body) (record leg { request = with_body request body })
  started_still hop request leg body s = record {
    mapped = s.mapped;
    place = s.place;
    kind = s.kind;
    plain = s.plain;
    others = s.others ++ child_of c e.number hop x;
    child = flat_map-push (child_of c e.number hop) e.items x ∙ ap (λ l. l ++ child_of c e.number hop x) s.child;
    same = ap (λ (l : Leg). record l { request = with_body request body }) s.same;
  }

  leads_still : (hop : ℕ) (request : Request) (leg : Leg) (location body : List ℕ) → LeadsOn site c e hop request leg location
      → LeadsOn site c (pushed e x) hop (with_body request body) (record leg { request = with_body request body }) location
  leads_still hop request leg location body l = record {
    started = started_still hop request leg body l.started;
    front = l.front;
    item = l.item;
    decided = decided_at-push (run_of site c e leg) e.items x ∙ or_else-some _ _ l.front l.decided;
    last = l.last;
    by_output = l.by_output;
    derives = l.derives;
  }

  record LeadStill (left hop : ℕ) (request : Request) (legs : List Leg) (left' hop' : ℕ) (request' : Request) : Type 0 where
    pub legs_then : List Leg
    pub request_then : Request
    pub leads : Leads site c (pushed e x) left hop request legs_then left' hop' request_then
    pub same_legs : SameLegs legs legs_then
    pub same_request : request_then ≡ with_body request' request_then.body

  lead_still : (left hop : ℕ) (request : Request) (body : List ℕ) (legs : List Leg) (left' hop' : ℕ) (request' : Request)
      → Leads site c e left hop request legs left' hop' request' → LeadStill left hop (with_body request body) legs left' hop' request'
  lead_still left hop request body [] left' hop' request' l = record {
    legs_then = [];
    request_then = with_body request' body;
    leads = (l.0, l.1, ap (λ r. with_body r body) l.2);
    same_legs = tt;
    same_request = refl;
  }
  lead_still zero hop request body (leg ∷ legs) left' hop' request' l = absurd l
  lead_still (suc left) hop request body (leg ∷ legs) left' hop' request' l =
      let later : LeadStill left (suc hop) (request_of_hop request l.0) legs left' hop' request' =
      lead_still left (suc hop) (request_of_hop request l.0) [] legs left' hop' request' l.2 in
      let request_is : leg.request ≡ request = ap (λ (g : Leg). g.request) l.1.started.same in
      record {
        legs_then = record leg { request = with_body request body } ∷ later.legs_then;
        request_then = later.request_then;
        leads = (l.0, leads_still hop request leg l.0 body l.1, later.leads);
        same_legs = (ap (λ r. record leg { request = with_body r body }) (sym request_is), later.same_legs);
        same_request = later.same_request;
      }

  -- a request that may be served may be served still, with more of its body
  record StartStill (first : Request) (now : Reading) : Type 0 where
    pub body : List ℕ
    pub start : startable now ≡ Some (with_body first body)

  length_still : (request first : Request) (due : Bool) (now : Reading) → is_length request.framing ≡ true → request ≡ first → Becomes (More (Some request) due) now → StartStill first now
  length_still request first due (Whole request' used due') long is grows =
      record { body = request.body ++ grows.0.0; start = ap (λ r. Some r) (grows.0.1 ∙ ap (λ r. with_body r (request.body ++ grows.0.0)) is) }
  length_still request first due (More (Some request') due') long is grows = record {
    body = request.body ++ grows.0.0;
    start = ap (λ (b : Bool). if b then Some request' else None) (ap (λ r. is_length r.framing) grows.0.1 ∙ long)
        ∙ ap (λ r. Some r) (grows.0.1 ∙ ap (λ r. with_body r (request.body ++ grows.0.0)) is);
  }
  length_still request first due (More None due') long is grows = absurd grows
  length_still request first due (Bad cause bare) long is grows = absurd (false≢true (sym grows.0 ∙ long))

  start_still : (was now : Reading) (first : Request) → startable was ≡ Some first → Becomes was now → StartStill first now
  start_still (Whole request used due) now first s grows = record { body = first.body; start = ap startable grows ∙ s }
  start_still (More None due) now first s grows = absurd (cc)
  start_still (More (Some request) due) now first s grows = go (is_length request.framing) refl s
    where
      some_is : (a b : Request) → Some a ≡ Some b → a ≡ b
      some_is a b e = cc

      go : (b : Bool) → is_length request.framing ≡ b → (if b then Some request else None) ≡ Some first → StartStill first now
      go true long is = length_still request first due now long (some_is request first is) grows
      go false long is = absurd (cc)
  start_still (Bad cause bare) now first s grows = absurd (cc)

  pub reaches_still : (legs : List Leg) (left hop : ℕ) (request : Request) → 2 ≤ site.limits.head → broken site c (pushed e x) ≡ None
      → Reaches site c e legs left hop request → StillReaches site c (pushed e x) legs left hop request
  reaches_still legs left hop request two none r =
      let start : StartStill r.first (reading site c (pushed e x)) = start_still (reading site c e) (reading site c (pushed e x)) r.first r.start (grown site c e x two) in
      let lead : LeadStill site.limits.redirects 0 (with_body r.first start.body) legs left hop request =
      lead_still site.limits.redirects 0 r.first start.body legs left hop request r.leads in
      record {
        legs_then = lead.legs_then;
        request_then = lead.request_then;
        reaches = record { first = with_body r.first start.body; start = start.start; unbroken = none; leads = lead.leads };
        same_legs = lead.same_legs;
        same_request = lead.same_request;
      }
