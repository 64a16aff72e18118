-- One turn: an event, and a step of the core.
use Rattle.std.proofs.Common.{◌≡◌, ℕ, ◌+◌, List, [], ◌∷◌, ◌++◌, Option, Some, ◌∙◌, ap, map, append_assoc}
use Rattle.std.specs.Prelude.{if◌then◌else◌}
use Rattle.host_trace.specs.declared.items.Event.{Event}
use Rattle.host_trace.specs.declared.items.Item.{Item}
use Rattle.host_trace.specs.declared.items.Item.TheVariants.{In, Out}
use Rattle.host_trace.specs.Told.{Hears, AddsActs}
use Rattle.host_trace.specs.Projections.{event_count}
use Rattle.host_trace.specs.Trace.{after_step}
use Rattle.many_conns.specs.declared.connection.Connection.{Ghosts}
use Rattle.host_core.specs.declared.core_state.Core.{Core}
use Rattle.host_core.specs.Owners.{served}
use Rattle.host_core.specs.Stands.{Stands, Steps}
use Rattle.host_loop.specs.Loops.{WasTold}
use Rattle.host_loop.specs.Served.{is_over, over_count}
use Rattle.host_loop.proofs.OverLaws.{counted, over_after}

-- the core stands for what is told after the turn, which has one event more; it is over at most there
pub record Turned {C : Type 0} {G : Ghosts C} (new : Core C G) (n : ℕ) (U : List Item) : Type 0 where
  pub stands : Stands new U
  pub count : event_count U ≡ n + 1
  pub first : over_count U ≡ (if is_over U then 1 else 0)

pub turned : {C : Type 0} {G : Ghosts C} (core new : Core C G) (limit : ℕ) (before mid after : Option (List Item)) (ev : Event) (n : ℕ) →
    ((T : List Item) → before ≡ Some T → Stands core T) →
    ((T : List Item) → before ≡ Some T → event_count T ≡ n) →
    ((T : List Item) → before ≡ Some T → over_count T ≡ 0) →
    limit ≡ (served core).limits.children →
    Hears limit before ev mid → Steps core ev mid new after → AddsActs mid after →
    (U : List Item) → after ≡ Some U → Turned new n U
turned core new limit before mid after ev n stands count none same hears steps adds U told =
    let a = (adds U told).1 in
    let h = hears a.was a.told in
    let acts = (adds U told).0 in
    let m : mid ≡ Some (h.was ++ In ev ∷ []) = a.told ∙ ap Some h.grew in
    let e : event_count U ≡ event_count h.was + 1 =
    ap event_count a.grew ∙ (ap (λ w. event_count (w ++ map Out acts)) h.grew ∙ counted h.was ev acts) in
    let u : U ≡ after_step h.was ev acts = a.grew ∙ (ap (λ w. w ++ map Out acts) h.grew ∙ append_assoc h.was (In ev ∷ []) (map Out acts)) in
    record {
      stands = steps h.was U (stands h.was h.told) m (rw (← same) h.fits_then) told;
      count = e ∙ ap (λ k. k + 1) (count h.was h.told);
      first = rw u (over_after h.was ev acts (none h.was h.told));
    }

-- what is told after the turn was told at first, if what was told before it was
pub told_still : (first before mid after : Option (List Item)) (limit : ℕ) (ev : Event) → WasTold first before → Hears limit before ev mid → AddsActs mid after → WasTold first after
told_still first before mid after limit ev was hears adds = λ U told.
    let a = (adds U told).1 in
    let h = hears a.was a.told in
    was h.was h.told
