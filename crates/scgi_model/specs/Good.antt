-- A good trace of an SCGI front: the part of each connection, and the part between connections.
use Rattle.std.specs.Prelude.{ℕ, true, List, ◌≡◌}
use Rattle.std.specs.List.{AllByRecursion}
use Rattle.host_base.specs.declared.site.Site.{Site}
use Rattle.host_trace.specs.declared.items.Item.{Item}
use Rattle.host_trace.specs.Projections.{is_known, own}
use Rattle.host_trace.specs.Trace.{Step, AtEachStep, end_of}
use Rattle.trace_child.specs.ChildGood.{ChildGood}
use Rattle.trace_model.specs.Between.{BetweenGood}
use Rattle.trace_model.specs.Demands.{has_room}
use Rattle.trace_model.specs.Good.{begins_with_event}
use Rattle.trace_model.specs.Steps.{heard_of}
use Rattle.scgi_model.specs.Request.{run_of}
use Rattle.front_rules.specs.Acts.{form, order, children_in}
use Rattle.scgi_model.specs.Rules.{replies, launches, begins, wants, shuts}

-- s is a step of the connection's own items
pub record StepGood (site : Site) (c : ℕ) (s : Step) : Type 0 where
  pub replies : replies site c (end_of s) ≡ true
  pub launches : launches site c s ≡ true
  pub begins : begins site c (end_of s) ≡ true
  pub wants : wants site c s ≡ true
  pub shuts : shuts site c s ≡ true
  pub form : form c s ≡ true
  pub order : order s ≡ true
  pub children : AllByRecursion (λ k. ChildGood (run_of site c (end_of s) k) (has_room c (end_of s)) (heard_of s) s.acts (end_of s)) (children_in c s)

abbrev pub GoodFor : Site → ℕ → List Item → Type 0
GoodFor site c L = AtEachStep (StepGood site c) L

pub record Good (site : Site) (T : List Item) : Type 0 where
  pub begun : begins_with_event T ≡ true
  pub between : AtEachStep (BetweenGood site) T
  pub connections : (c : ℕ) → is_known T c ≡ true → GoodFor site c (own T c)
