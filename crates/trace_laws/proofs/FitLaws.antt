-- One step more whose event fits.
use Rattle.std.proofs.Common.{◌≡◌, ◌++◌, true, List, [], ◌∷◌, map, sym, subst}
use Rattle.std.specs.List.{AllByRecursion}
use Rattle.host_base.specs.declared.site.Site.{Site}
use Rattle.host_trace.specs.declared.items.Act.{Act}
use Rattle.host_trace.specs.declared.items.Event.{Event}
use Rattle.host_trace.specs.declared.items.Item.{Item}
use Rattle.host_trace.specs.declared.items.Item.TheVariants.{In, Out}
use Rattle.host_trace.specs.Fits.{fits}
use Rattle.host_trace.specs.Trace.{AtEachStep, Step, step_of, steps}
use Rattle.host_trace.proofs.StepLaws.{steps-append}
use Rattle.trace_laws.specs.Promised.{HasFitting}

all-push : (P : Step → Type 0) (xs : List Step) (x : Step) → AllByRecursion P xs → P x → AllByRecursion P (xs ++ x ∷ [])
all-push P [] x all p = (p, tt)
all-push P (y ∷ xs) x all p = (all.0, all-push P xs x all.1 p)

pub fit-more : (site : Site) (T : List Item) (event : Event) (acts : List Act) (U : List Item) → U ≡ T ++ In event ∷ map Out acts
    → fits site.limits.children T event ≡ true → AtEachStep (HasFitting site) T → AtEachStep (HasFitting site) U
fit-more site T event acts U grew fit all =
    subst (AtEachStep (HasFitting site)) (sym grew)
    (subst (λ ss. AllByRecursion (HasFitting site) ss) (sym (steps-append T event acts)) (all-push (HasFitting site) (steps T) (step_of T event acts) all fit))
