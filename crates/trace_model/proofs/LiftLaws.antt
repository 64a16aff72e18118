-- From a step of one connection's items to a step of the whole trace.
use Rattle.std.proofs.Common.{◌≡◌, ℕ, List, [], ◌∷◌, ◌++◌, ap, ◌∙◌, map, append-nil}
use Rattle.std.specs.List.{AllByRecursion}
use Rattle.host_base.specs.declared.site.Site.{Site}
use Rattle.host_trace.specs.declared.items.Act.{Act}
use Rattle.host_trace.specs.declared.items.Event.{Event}
use Rattle.host_trace.specs.declared.items.Item.{Item}
use Rattle.host_trace.specs.declared.items.Item.TheVariants.{In, Out}
use Rattle.host_trace.specs.Projections.{own, own_after}
use Rattle.host_trace.specs.Trace.{Step, steps, step_of, after_step, AtEachStep}
use Rattle.host_trace.proofs.OwnLaws.{own-append}
use Rattle.host_trace.proofs.StepLaws.{steps-append}
use Rattle.trace_model.specs.Good.{GoodFor, StepGood}

All-push : {X : Type 0} (P : X → Type 0) (xs : List X) (x : X) → AllByRecursion P xs → P x → AllByRecursion P (xs ++ x ∷ [])
All-push P [] x all it = (it, tt)
All-push P (y ∷ xs) x all it = (all.0, All-push P xs x all.1 it)

pub AtEachStep-push : (claim : Step → Type 0) (T : List Item) (event : Event) (acts : List Act) → AtEachStep claim T → claim (step_of T event acts)
    → AtEachStep claim (after_step T event acts)
AtEachStep-push claim T event acts each it = rw (steps-append T event acts) (All-push claim (steps T) (step_of T event acts) each it)

-- in a step that concerns c, with these acts of c and its children among all acts, the items of c have that step more
pub own-step : (T : List Item) (c : ℕ) (event : Event) (acts mine : List Act) → own_after T c (In event ∷ map Out acts) ≡ In event ∷ map Out mine
    → own (after_step T event acts) c ≡ after_step (own T c) event mine
own-step T c event acts mine is = own-append T c (In event ∷ map Out acts) ∙ ap (λ l. own T c ++ l) is

-- so its part goes on with that step
pub GoodFor-step : (site : Site) (c : ℕ) (T : List Item) (event : Event) (acts mine : List Act)
    → own_after T c (In event ∷ map Out acts) ≡ In event ∷ map Out mine
    → GoodFor site c (own T c) → StepGood site c (step_of (own T c) event mine)
    → GoodFor site c (own (after_step T event acts) c)
GoodFor-step site c T event acts mine is good it =
    rw (own-step T c event acts mine is) (AtEachStep-push (StepGood site c) (own T c) event mine good it)

-- in a step that doesn't, its part is what it was
pub GoodFor-other : (site : Site) (c : ℕ) (T : List Item) (event : Event) (acts : List Act)
    → own_after T c (In event ∷ map Out acts) ≡ []
    → GoodFor site c (own T c) → GoodFor site c (own (after_step T event acts) c)
GoodFor-other site c T event acts is good =
    rw (own-append T c (In event ∷ map Out acts), is, append-nil (own T c)) good
