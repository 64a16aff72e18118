-- What an outside in memory that hears and acts takes off its list.
use Rattle.std.proofs.Common.{◌≡◌, ℕ, Bool, true, false, not, ◌&&◌, List, [], ◌∷◌, ◌++◌, Some, None, ◌∙◌, refl, sym, ap, subst, append-nil}
use Rattle.std.specs.Prelude.{if◌then◌else◌}
use Rattle.host_trace.specs.declared.items.Event.{Event}
use Rattle.host_trace.specs.declared.items.Act.{Act}
use Rattle.host_trace.specs.declared.items.Item.{Item}
use Rattle.host_trace.specs.declared.items.Item.TheVariants.{Out}
use Rattle.host_trace.specs.declared.outside.Acted.{Acted}
use Rattle.host_trace.specs.declared.outside.Acted.TheVariants.{Done, NoRoom}
use Rattle.host_trace.specs.Told.{ActsOn, Hears}
use Rattle.memory_world.specs.MemoryWords.{items_of, listed_of, trace_of}
use Rattle.memory_world.specs.NextEvent.{next_event, left_listed}
use Rattle.memory_world.specs.declared.outside.MemoryOutside.{MemoryOutside}
use Rattle.sample_run.specs.Takes.{Leaves, Takes, events_of, left_after, named}
use Rattle.sample_run.proofs.TakeLaws.{events_of_done, events_of_heard, left_after_done, left_after_heard, named_done, named_heard}

-- an outside that tells is not a wild one
told_is : (tells wild : Bool) (items T : List Item) → (if tells && not wild then Some items else None) ≡ Some T → (items ≡ T) × (wild ≡ false)
told_is true true items T told = absurd (cc)
told_is true false items T told = (cc, refl)
told_is false wild items T told = absurd (cc)

named_by : (limit : ℕ) (events : List Event) (was : List Item) (wild : Bool) (most : ℕ) (items : List Item) (listed : List Event) (event : Event) →
    wild ≡ false → most ≡ limit → items ≡ was → listed ≡ left_after limit [] was events → event ≡ next_event wild most items listed →
    event ≡ next_event false limit was (left_after limit [] was events)
named_by limit events was wild most items listed event tame same all left is = rw (tame, same, all, left) at is

left_by : (limit : ℕ) (events : List Event) (was : List Item) (wild : Bool) (most : ℕ) (items : List Item) (listed after : List Event) →
    wild ≡ false → most ≡ limit → items ≡ was → listed ≡ left_after limit [] was events → after ≡ left_listed wild most items listed →
    after ≡ left_listed false limit was (left_after limit [] was events)
left_by limit events was wild most items listed after tame same all left is = rw (tame, same, all, left) at is

module _ (limit : ℕ) (events : List Event) (old new : MemoryOutside) (takes : (T : List Item) → trace_of old ≡ Some T → Takes limit events T)
    (leaves : (T : List Item) → trace_of old ≡ Some T → Leaves limit events T (listed_of old)) where
  pub hears_next : (event : Event) → old.limit ≡ limit → Hears old.limit (trace_of old) event (trace_of new) →
      event ≡ next_event old.wild old.limit (items_of old) (listed_of old) → listed_of new ≡ left_listed old.wild old.limit (items_of old) (listed_of old) →
      (T : List Item) → trace_of new ≡ Some T → Takes limit events T × Leaves limit events T (listed_of new)
  hears_next event same hears is left T told =
      let h = hears T told in
      let was = h.was in
      let o = told_is old.telling.tells old.wild (items_of old) was h.told in
      let e : event ≡ next_event false limit was (left_after limit [] was events) =
      named_by limit events was old.wild old.limit (items_of old) (listed_of old) event o.1 same o.0 (leaves was h.told) is in
      let l : listed_of new ≡ left_listed false limit was (left_after limit [] was events) =
      left_by limit events was old.wild old.limit (items_of old) (listed_of old) (listed_of new) o.1 same o.0 (leaves was h.told) left in (
        ap events_of h.grew ∙ events_of_heard was event ∙ ap (λ (es : List Event). es ++ event ∷ []) (takes was h.told)
            ∙ ap (λ (x : Event). named limit [] was events ++ x ∷ []) e ∙ sym (named_heard limit [] was events event) ∙ ap (λ (U : List Item). named limit [] U events) (sym h.grew),
        l ∙ sym (left_after_heard limit [] was events event) ∙ ap (λ (U : List Item). left_after limit [] U events) (sym h.grew),
      )

  same_trace : (T was : List Item) → T ≡ was ++ [] → trace_of old ≡ Some was → listed_of new ≡ listed_of old → Takes limit events T × Leaves limit events T (listed_of new)
  same_trace T was grew told left =
      let e : T ≡ was = grew ∙ append-nil was in (
        subst (λ (U : List Item). Takes limit events U) (sym e) (takes was told),
        subst (λ (U : List Item). Leaves limit events U (listed_of new)) (sym e) (left ∙ leaves was told),
      )

  one_act : (T was : List Item) (act : Act) → T ≡ was ++ Out act ∷ [] → trace_of old ≡ Some was → listed_of new ≡ listed_of old → Takes limit events T × Leaves limit events T (listed_of new)
  one_act T was act grew told left = (
    ap events_of grew ∙ events_of_done was act ∙ takes was told ∙ sym (named_done limit [] was events act) ∙ ap (λ (U : List Item). named limit [] U events) (sym grew),
    left ∙ leaves was told ∙ sym (left_after_done limit [] was events act) ∙ ap (λ (U : List Item). left_after limit [] U events) (sym grew),
  )

  pub acts_on : (act : Act) (acted : Acted) → ActsOn (trace_of old) act acted (trace_of new) → listed_of new ≡ listed_of old →
      (T : List Item) → trace_of new ≡ Some T → Takes limit events T × Leaves limit events T (listed_of new)
  acts_on act Done acts left T told = let a = acts T told in one_act T a.was act a.grew a.told left
  acts_on act NoRoom acts left T told = let a = acts T told in same_trace T a.was a.grew a.told left
