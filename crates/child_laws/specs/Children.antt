-- What is known of the children of the exchange that goes on: all but the last are settled.
use Rattle.std.specs.Prelude.{ℕ, Bool, true, false, not, ◌&&◌, ◌≡◌, ◌≤◌, List, [], ◌∷◌, ◌++◌, Option, Some, None, is_some}
use Rattle.std.specs.List.{list_any, AllByRecursion}
use Rattle.host_base.specs.declared.site.Site.{Site}
use Rattle.host_trace.specs.Decider.{is_websocket}
use Rattle.host_trace.specs.Kinds.{names_child}
use Rattle.host_trace.specs.Projections.{children}
use Rattle.own_traces.specs.Whose.{has}
use Rattle.child_core.specs.declared.ending.Ending.TheVariants.{Dropped}
use Rattle.child_core.specs.View.{View, drops_output}
use Rattle.child_core.specs.Calls.{ended, is_settled}
use Rattle.child_core.specs.Knows.{KnowsRun}
use Rattle.trace_model.specs.Exchange.{Exchange, all_of}
use Rattle.trace_model.specs.Legs.{Leg}
use Rattle.child_laws.specs.Setting.{setting, IsRunOf}
use Rattle.child_laws.specs.Legs.{children_of_legs, ByHop, Led}

-- ---- one leg

-- once it is decided nothing is kept for the child, and no output that is none of a reply
pub record IsSpent (v : View) : Type 0 where
  pub unfed : is_some v.outcome ≡ true → v.unfed ≡ []
  pub whole : is_some v.outcome ≡ true → v.whole ≡ false
  pub output : is_some v.outcome ≡ true → drops_output v.kind v.outcome ≡ true → v.output ≡ []

-- the child of a script that is no WebSocket's, which no item before the exchange names
pub record KnowsLeg (site : Site) (c : ℕ) (e : Exchange) (early : Bool) (leg : Leg) (v : View) : Type 0 where
  pub is : IsRunOf v leg
  pub plain : is_websocket v.kind ≡ false
  pub knows : KnowsRun early (setting site c e leg.hop) v e.items
  pub spent : IsSpent v
  pub unnamed : list_any (names_child v.number) e.before ≡ false

-- a leg whose child is settled, and of whose view more is known
pub record SettledLeg (More : View → Type 0) (site : Site) (c : ℕ) (e : Exchange) (leg : Leg) : Type 0 where
  pub view : View
  pub known : KnowsLeg site c e false leg view
  pub settled : is_settled view ≡ true
  pub more : More view

-- ---- all legs

-- The run as its connection holds it: where memory ran out, the connection has ended it, and the Shut that ends it
-- in the list is still to come (`early`).
abbrev pub HeldAs : Bool → View → View → Type 0
HeldAs false held v = held ≡ v
HeldAs true held v = held ≡ ended v Dropped

-- these are the legs, of which all but the last are settled
pub record KnowsLast (More : View → Type 0) (site : Site) (c : ℕ) (e : Exchange) (early : Bool) (legs : List Leg) (held : View) : Type 0 where
  pub older : List Leg
  pub leg : Leg
  pub are : legs ≡ older ++ leg ∷ []
  pub started : children e.items c ≡ children_of_legs legs
  pub hops : ByHop c e 0 legs
  pub view : View
  pub held_as : HeldAs early held view
  pub known : KnowsLeg site c e (early && not (is_some view.outcome)) leg view
  pub apart : has (children_of_legs older) view.number ≡ false
  pub settled : AllByRecursion (SettledLeg More site c e) older
  pub led : Led site c e older leg

-- by whether there is a last one
abbrev pub KnowsRuns : (View → Type 0) → Site → ℕ → Exchange → Bool → List Leg → Option View → Type 0
KnowsRuns More site c e early legs None = (legs ≡ []) × (children e.items c ≡ [])
KnowsRuns More site c e early legs (Some held) = KnowsLast More site c e early legs held

abbrev pub NoMore : View → Type 0
NoMore v = Unit {0}

-- What a connection knows of the children of its exchange: these are the legs, and this is the last one's run. No item
-- of the connection names a child of number `next` or above.
pub record KnowsChildren (site : Site) (c : ℕ) (e : Exchange) (early : Bool) (next : ℕ) (legs : List Leg) (run : Option View) : Type 0 where
  pub fresh : (k : ℕ) → next ≤ k → list_any (names_child k) (all_of e) ≡ false
  pub runs : KnowsRuns NoMore site c e early legs run

-- ---- the last run

abbrev pub is_over : Option View → Bool
is_over None = true
is_over (Some v) = is_settled v

-- where memory ran out
abbrev pub dropped : Option View → Option View
dropped None = None
dropped (Some v) = Some (ended v Dropped)
