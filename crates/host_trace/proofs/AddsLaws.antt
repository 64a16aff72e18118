-- What is added in two goes is added, and acts are no events.
use Rattle.std.proofs.Common.{◌≡◌, ℕ, ◌+◌, add-zero, List, [], ◌∷◌, ◌++◌, map, Option, refl, ◌∙◌, ap, append_assoc}
use Rattle.std.specs.Prelude.{if◌then◌else◌}
use Rattle.std.specs.List.{fold}
use Rattle.std.proofs.lemmas.Grind.{fold-append}
use Rattle.std.proofs.lemmas.List.{map-append}
use Rattle.host_trace.specs.declared.items.Event.{Event}
use Rattle.host_trace.specs.declared.items.Act.{Act}
use Rattle.host_trace.specs.declared.items.Item.{Item}
use Rattle.host_trace.specs.declared.items.Item.TheVariants.{In, Out}
use Rattle.host_trace.specs.Kinds.{is_event}
use Rattle.host_trace.specs.Projections.{event_count}
use Rattle.host_trace.specs.Told.{Adds, Added}

pub Adds-trans : {a b c : Option (List Item)} {xs ys : List Act} → Adds a xs b → Adds b ys c → Adds a (xs ++ ys) c
Adds-trans {a} {b} {c} {xs} {ys} former latter now told =
    let two : Added b ys now = latter now told in
    let one : Added a xs two.was = former two.was two.told in
    record {
      was = one.was;
      told = one.told;
      grew = two.grew ∙ (ap (λ items. items ++ map Out ys) one.grew ∙ simp (map-append, append_assoc));
    }

no_events : (n : ℕ) (acts : List Act) → fold (λ (n : ℕ) (x : Item). n + (if is_event x then 1 else 0)) n (map Out acts) ≡ n
no_events n [] = refl
no_events n (a ∷ acts) = no_events (n + 0) acts ∙ add-zero n

pub event_count-acts : (T : List Item) (acts : List Act) → event_count (T ++ map Out acts) ≡ event_count T
event_count-acts T acts =
    fold-append (λ (n : ℕ) (x : Item). n + (if is_event x then 1 else 0)) 0 T (map Out acts) ∙ no_events (event_count T) acts

pub event_count-event : (T : List Item) (event : Event) → event_count (T ++ In event ∷ []) ≡ event_count T + 1
event_count-event T event = fold-append (λ (n : ℕ) (x : Item). n + (if is_event x then 1 else 0)) 0 T (In event ∷ [])
