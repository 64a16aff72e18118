-- The legs of an exchange, by the Starts that stand in it and by the walk that led to them.
use Rattle.std.specs.Prelude.{ℕ, suc, ◌≡◌, ◌≤◌, List, [], ◌∷◌, map}
use Rattle.host_base.specs.declared.request.Request.{Request}
use Rattle.host_base.specs.declared.site.Site.{Site}
use Rattle.host_trace.specs.Projections.{children_of}
use Rattle.trace_model.specs.Exchange.{Exchange}
use Rattle.trace_model.specs.Legs.{Leg}
use Rattle.conn_laws.specs.Hops.{IsStarted, Reaches}

-- their children, in order
abbrev pub children_of_legs : List Leg → List ℕ
children_of_legs legs = map (λ (leg : Leg). leg.child) legs

-- for each of these legs one child was started, at this hop and those that follow it, and none at a later one
abbrev pub ByHop : ℕ → Exchange → ℕ → List Leg → Type 0
ByHop c e hop [] = (later : ℕ) → hop ≤ later → children_of e.items c e.number later ≡ []
ByHop c e hop (leg ∷ legs) = (leg.hop ≡ hop) × (children_of e.items c e.number hop ≡ leg.child ∷ []) × ByHop c e (suc hop) legs

-- of these two only the requests may differ
pub record SameRun (was now : Leg) : Type 0 where
  pub child : now.child ≡ was.child
  pub hop : now.hop ≡ was.hop
  pub kind : now.kind ≡ was.kind

-- .. one by one
abbrev pub SameRuns : List Leg → List Leg → Type 0
SameRuns [] [] = Unit {0}
SameRuns [] (leg ∷ legs) = ⊥
SameRuns (leg ∷ legs) [] = ⊥
SameRuns (was ∷ legs) (now ∷ later) = SameRun was now × SameRuns legs later

-- The walk led along these legs and to the last one, where only the requests of the legs may differ.
pub record Led (site : Site) (c : ℕ) (e : Exchange) (older : List Leg) (leg : Leg) : Type 0 where
  pub walked : List Leg
  pub left : ℕ
  pub hop : ℕ
  pub request : Request
  pub last : Leg
  pub reaches : Reaches site c e walked left hop request
  pub started : IsStarted site c e hop request last
  pub same_older : SameRuns older walked
  pub same_last : SameRun leg last
