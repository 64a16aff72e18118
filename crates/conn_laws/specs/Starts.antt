-- What a Start and what decided a run make of the hop that was reached.
use Rattle.std.specs.Prelude.{ℕ, Bool, true, false, ◌≡◌, List, [], ◌∷◌, ◌++◌, Option, Some, None, Ok}
use Rattle.host_base.specs.declared.launch.Launch.{Launch}
use Rattle.host_base.specs.declared.request.Request.{Request}
use Rattle.host_base.specs.declared.site.Mapped.{Mapped}
use Rattle.host_base.specs.declared.site.Site.{Site}
use Rattle.host_trace.specs.declared.items.Act.TheVariants.{Start}
use Rattle.host_trace.specs.declared.items.Item.{Item}
use Rattle.host_trace.specs.declared.items.Item.TheVariants.{Out}
use Rattle.host_trace.specs.Decider.{Outcome, is_websocket}
use Rattle.host_trace.specs.Kinds.{output_heard}
use Rattle.host_trace.specs.Projections.{child_out, children_of}
use Rattle.trace_child.specs.Decided.{decided_at, outcome_at, outcome_of}
use Rattle.trace_model.specs.Exchange.{Exchange, pushed}
use Rattle.trace_model.specs.Legs.{Leg, leg_of, run_of}
use Rattle.trace_model.specs.Places.{place_of, kind_of}
use Rattle.conn_laws.specs.Hops.{IsStarted}
use Rattle.conn_laws.specs.Laws.{IsDecidedBy}

-- the hop of a script that was not started
pub record IsUnstarted (site : Site) (c : ℕ) (e : Exchange) (hop : ℕ) (request : Request) (mapped : Mapped) : Type 0 where
  pub place : place_of site request ≡ Ok mapped
  pub plain : is_websocket (kind_of site mapped) ≡ false
  pub none : children_of e.items c e.number hop ≡ []

-- Its Start starts it, as the leg of this child.
abbrev pub StartsBegin : Type 0
StartsBegin = (site : Site) (c : ℕ) (e : Exchange) (hop : ℕ) (request : Request) (mapped : Mapped) (k : ℕ) (launch : Launch)
    → IsUnstarted site c e hop request mapped
    → IsStarted site c (pushed e (Out (Start k c e.number hop launch))) hop request (leg_of hop (kind_of site mapped) request k)

-- what decided the run of a leg
pub record Decided (site : Site) (c : ℕ) (e : Exchange) (leg : Leg) (outcome : Outcome) : Type 0 where
  pub front : List Item
  pub item : Item
  pub by : IsDecidedBy site c e leg front item
  pub is : outcome_at (run_of site c e leg) item ≡ outcome

-- A run with an outcome was decided, and one without was not.
pub record OutcomesTell (site : Site) (c : ℕ) (e : Exchange) (leg : Leg) : Type 0 where
  pub some : (outcome : Outcome) → outcome_of (run_of site c e leg) e.items ≡ Some outcome → Decided site c e leg outcome
  pub none : outcome_of (run_of site c e leg) e.items ≡ None → decided_at (run_of site c e leg) e.items ≡ None

abbrev pub OutcomesTellDeciders : Type 0
OutcomesTellDeciders = (site : Site) (c : ℕ) (e : Exchange) (leg : Leg) → OutcomesTell site c e leg

-- The output up to the item that decided is all output, while none is heard after it.
pub record OutputStays (site : Site) (c : ℕ) (e : Exchange) (leg : Leg) (x : Item) : Type 0 where
  pub decided_now : decided_at (run_of site c e leg) e.items ≡ None → (front : List Item) → decided_at (run_of site c e leg) (e.items ++ x ∷ []) ≡ Some front
      → front ≡ e.items ++ x ∷ []
  pub later : (front : List Item) → child_out front leg.child ≡ child_out e.items leg.child → output_heard leg.child x ≡ []
      → child_out front leg.child ≡ child_out (e.items ++ x ∷ []) leg.child

abbrev pub WholeOutputStays : Type 0
WholeOutputStays = (site : Site) (c : ℕ) (e : Exchange) (leg : Leg) (x : Item) → OutputStays site c e leg x
