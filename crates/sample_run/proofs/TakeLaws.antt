-- One item more.
use Rattle.std.proofs.Common.{◌≡◌, ℕ, false, List, [], ◌∷◌, ◌++◌, ◌∙◌, refl, ap, append-nil, append_assoc}
use Rattle.host_trace.specs.declared.items.Event.{Event}
use Rattle.host_trace.specs.declared.items.Act.{Act}
use Rattle.host_trace.specs.declared.items.Item.{Item}
use Rattle.host_trace.specs.declared.items.Item.TheVariants.{In, Out}
use Rattle.memory_world.specs.NextEvent.{next_event, left_listed}
use Rattle.sample_run.specs.Takes.{events_of, left_after, named}

pub events_of_heard : (items : List Item) (event : Event) → events_of (items ++ In event ∷ []) ≡ events_of items ++ event ∷ []
events_of_heard [] event = refl
events_of_heard (In x ∷ items) event = ap (λ (es : List Event). x ∷ es) (events_of_heard items event)
events_of_heard (Out act ∷ items) event = events_of_heard items event

pub events_of_done : (items : List Item) (act : Act) → events_of (items ++ Out act ∷ []) ≡ events_of items
events_of_done [] act = refl
events_of_done (In x ∷ items) act = ap (λ (es : List Event). x ∷ es) (events_of_done items act)
events_of_done (Out a ∷ items) act = events_of_done items act

shifted : (before items : List Item) (x : Item) → (before ++ x ∷ []) ++ items ≡ before ++ (x ∷ items)
shifted before items x = append_assoc before (x ∷ []) items

pub left_after_heard : (limit : ℕ) (before items : List Item) (listed : List Event) (event : Event) →
    left_after limit before (items ++ In event ∷ []) listed ≡ left_listed false limit (before ++ items) (left_after limit before items listed)
left_after_heard limit before [] listed event = rw append-nil refl
left_after_heard limit before (In x ∷ items) listed event =
    let more : List Event = left_listed false limit before listed in
    left_after_heard limit (before ++ In x ∷ []) items more event
    ∙ ap (λ (T : List Item). left_listed false limit T (left_after limit (before ++ In x ∷ []) items more)) (shifted before items (In x))
left_after_heard limit before (Out a ∷ items) listed event =
    left_after_heard limit (before ++ Out a ∷ []) items listed event
    ∙ ap (λ (T : List Item). left_listed false limit T (left_after limit (before ++ Out a ∷ []) items listed)) (shifted before items (Out a))

pub left_after_done : (limit : ℕ) (before items : List Item) (listed : List Event) (act : Act) →
    left_after limit before (items ++ Out act ∷ []) listed ≡ left_after limit before items listed
left_after_done limit before [] listed act = refl
left_after_done limit before (In x ∷ items) listed act = left_after_done limit (before ++ In x ∷ []) items (left_listed false limit before listed) act
left_after_done limit before (Out a ∷ items) listed act = left_after_done limit (before ++ Out a ∷ []) items listed act

pub named_heard : (limit : ℕ) (before items : List Item) (listed : List Event) (event : Event) →
    named limit before (items ++ In event ∷ []) listed ≡ named limit before items listed ++ next_event false limit (before ++ items) (left_after limit before items listed) ∷ []
named_heard limit before [] listed event = rw append-nil refl
named_heard limit before (In x ∷ items) listed event =
    let more : List Event = left_listed false limit before listed in
    ap (λ (es : List Event). next_event false limit before listed ∷ es)
    (named_heard limit (before ++ In x ∷ []) items more event
    ∙ ap (λ (T : List Item). named limit (before ++ In x ∷ []) items more ++ next_event false limit T (left_after limit (before ++ In x ∷ []) items more) ∷ []) (shifted before items (In x)))
named_heard limit before (Out a ∷ items) listed event =
    named_heard limit (before ++ Out a ∷ []) items listed event
    ∙ ap (λ (T : List Item). named limit (before ++ Out a ∷ []) items listed ++ next_event false limit T (left_after limit (before ++ Out a ∷ []) items listed) ∷ []) (shifted before items (Out a))

pub named_done : (limit : ℕ) (before items : List Item) (listed : List Event) (act : Act) →
    named limit before (items ++ Out act ∷ []) listed ≡ named limit before items listed
named_done limit before [] listed act = refl
named_done limit before (In x ∷ items) listed act = ap (λ (es : List Event). next_event false limit before listed ∷ es) (named_done limit (before ++ In x ∷ []) items (left_listed false limit before listed) act)
named_done limit before (Out a ∷ items) listed act = named_done limit (before ++ Out a ∷ []) items listed act
