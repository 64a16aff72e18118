-- How local redirects lead from hop to hop (RFC 3875 6.2.2).
use Rattle.std.specs.Prelude.{ℕ, zero, suc, false, ◌≡◌, List, [], ◌∷◌, Option, Some, None, Ok}
use Rattle.host_base.specs.declared.request.Request.{Request}
use Rattle.host_base.specs.declared.site.Mapped.{Mapped}
use Rattle.host_base.specs.declared.site.Site.{Site}
use Rattle.host_trace.specs.declared.items.Item.{Item}
use Rattle.host_trace.specs.Decider.{derived, is_websocket}
use Rattle.host_trace.specs.First.{last_of}
use Rattle.host_trace.specs.Projections.{child_out, children_of}
use Rattle.reply_kinds.specs.declared.derived.Derived.TheVariants as Output
use Rattle.reply_kinds.specs.Derived.{derived_of}
use Rattle.request_reader.specs.Request.{with_body}
use Rattle.trace_child.specs.Decided.{decided_at, outcome_at}
use Rattle.trace_model.specs.Answer.{Walk, with_leg, request_of_hop}
use Rattle.trace_model.specs.Breaks.{broken}
use Rattle.trace_model.specs.Exchange.{Exchange, reading}
use Rattle.trace_model.specs.Legs.{Leg, leg_of, run_of}
use Rattle.trace_model.specs.Places.{place_of, kind_of}
use Rattle.trace_model.specs.Readings.{startable}

-- the script of a hop was started, as this leg
pub record IsStarted (site : Site) (c : ℕ) (e : Exchange) (hop : ℕ) (request : Request) (leg : Leg) : Type 0 where
  pub mapped : Mapped
  pub place : place_of site request ≡ Ok mapped
  pub kind : kind_of site mapped ≡ leg.kind
  pub plain : is_websocket leg.kind ≡ false
  pub others : List ℕ
  pub child : children_of e.items c e.number hop ≡ leg.child ∷ others
  pub same : leg ≡ leg_of hop leg.kind request leg.child

-- .. its output ended, and its whole output is a local redirect to this location
pub record LeadsOn (site : Site) (c : ℕ) (e : Exchange) (hop : ℕ) (request : Request) (leg : Leg) (location : List ℕ) : Type 0 where
  pub started : IsStarted site c e hop request leg
  pub front : List Item
  pub item : Item
  pub decided : decided_at (run_of site c e leg) e.items ≡ Some front
  pub last : last_of front ≡ Some item
  pub by_output : outcome_at (run_of site c e leg) item ≡ derived
  pub derives : derived_of leg.kind (child_out front leg.child) ≡ Output.Hop location

-- these legs lead from a hop to a later one, where so many local redirects are left
abbrev pub Leads : Site → ℕ → Exchange → ℕ → ℕ → Request → List Leg → ℕ → ℕ → Request → Type 0
Leads site c e left hop request [] left' hop' request' = (left ≡ left') × (hop ≡ hop') × (request ≡ request')
Leads site c e zero hop request (leg ∷ legs) left' hop' request' = ⊥
Leads site c e (suc left) hop request (leg ∷ legs) left' hop' request' =
    (location : List ℕ) × LeadsOn site c e hop request leg location
    × Leads site c e left (suc hop) (request_of_hop request location) legs left' hop' request'

-- The request may be served and is not broken, and these legs led to this hop, where so many local redirects are left.
pub record Reaches (site : Site) (c : ℕ) (e : Exchange) (legs : List Leg) (left hop : ℕ) (request : Request) : Type 0 where
  pub first : Request
  pub start : startable (reading site c e) ≡ Some first
  pub unbroken : broken site c e ≡ None
  pub leads : Leads site c e site.limits.redirects 0 first legs left hop request

abbrev pub with_legs : List Leg → Walk → Walk
with_legs [] walk = walk
with_legs (leg ∷ legs) walk = with_leg leg (with_legs legs walk)

-- only the bodies of the requests differ
abbrev pub SameLegs : List Leg → List Leg → Type 0
SameLegs [] [] = Unit {0}
SameLegs [] (leg ∷ legs) = ⊥
SameLegs (leg ∷ legs) [] = ⊥
SameLegs (was ∷ legs) (now ∷ later) = (now ≡ record was { request = with_body was.request now.request.body }) × SameLegs legs later

-- Legs led to the same hop as these, whose requests may have had less of their bodies.
pub record StillReaches (site : Site) (c : ℕ) (e : Exchange) (legs : List Leg) (left hop : ℕ) (request : Request) : Type 0 where
  pub legs_then : List Leg
  pub request_then : Request
  pub reaches : Reaches site c e legs_then left hop request_then
  pub same_legs : SameLegs legs legs_then
  pub same_request : request_then ≡ with_body request request_then.body
