-- Which scripts were started for an exchange, hop by hop.
use Rattle.std.specs.Prelude.{ℕ, suc, ◌≡◌, ◌≤◌, List, [], ◌∷◌, ◌++◌, map}
use Rattle.host_base.specs.declared.request.Request.{Request}
use Rattle.host_base.specs.declared.site.Site.{Site}
use Rattle.host_trace.specs.Projections.{children, children_of}
use Rattle.trace_model.specs.Exchange.{Exchange}
use Rattle.trace_model.specs.Legs.{Leg}
use Rattle.conn_laws.specs.Hops.{IsStarted, StillReaches}

abbrev pub child_of_leg : Leg → ℕ
child_of_leg leg = leg.child

-- the children of these legs were started for it, and no other was
abbrev pub HasChildren : ℕ → Exchange → List Leg → Type 0
HasChildren c e legs = children e.items c ≡ map child_of_leg legs

-- no script was started for this hop or a later one
abbrev pub IsNew : ℕ → Exchange → ℕ → Type 0
IsNew c e hop = (later : ℕ) → hop ≤ later → children_of e.items c e.number later ≡ []

-- These legs led to this hop, for which no script was started yet. Of the requests more may have been heard since.
pub record AtHop (site : Site) (c : ℕ) (e : Exchange) (legs : List Leg) (left hop : ℕ) (request : Request) : Type 0 where
  pub reached : StillReaches site c e legs left hop request
  pub children_are : HasChildren c e legs
  pub new : IsNew c e hop

-- The last of these legs is this one: those before it led to its hop, and its script was started there.
pub record IsLast (site : Site) (c : ℕ) (e : Exchange) (legs : List Leg) (leg : Leg) : Type 0 where
  pub before : List Leg
  pub left : ℕ
  pub is : legs ≡ before ++ leg ∷ []
  pub reached : StillReaches site c e before left leg.hop leg.request
  pub started : IsStarted site c e leg.hop leg.request leg
  pub children_are : HasChildren c e legs
  pub new : IsNew c e (suc leg.hop)
