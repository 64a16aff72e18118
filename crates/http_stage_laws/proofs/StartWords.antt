-- The output of a child comes behind its Start.
use Rattle.std.proofs.Common.{◌≡◌, ℕ, ◌==◌, Bool, true, false, ◌||◌, if◌then◌else◌, List, [], ◌∷◌, ◌++◌, Some, refl, sym, ap, ◌∙◌}
use Rattle.std.specs.List.{list_any}
use Rattle.std.proofs.lemmas.Bool.{eq-eqb, false≢true}
use Rattle.host_base.specs.declared.site.Site.{Site}
use Rattle.host_trace.specs.declared.items.Act.{Act}
use Rattle.host_trace.specs.declared.items.Act.TheVariants.{Start}
use Rattle.host_trace.specs.declared.items.Event.{Event}
use Rattle.host_trace.specs.declared.items.Item.{Item}
use Rattle.host_trace.specs.declared.items.Item.TheVariants.{In, Out}
use Rattle.host_trace.specs.First.{since}
use Rattle.host_trace.specs.Kinds.{child_started, is_start, output_heard}
use Rattle.host_trace.specs.Projections.{child_out}
use Rattle.host_trace.proofs.FirstLaws.{list_any-push}
use Rattle.host_trace.proofs.ProjectionLaws.{child_out-push}
use Rattle.child_core.specs.View.{View}
use Rattle.child_core.proofs.WordLaws.{since_begun, since_first}
use Rattle.trace_model.specs.Exchange.{Exchange, pushed}
use Rattle.trace_model.specs.Legs.{Leg as Started}
use Rattle.child_laws.specs.Children.{KnowsChildren}
use Rattle.http_stage_laws.specs.HeardStages.{StartsComeFirst}

start_silent : (k : ℕ) (x : Item) → is_start k x ≡ true → output_heard k x ≡ []
start_silent k (In ev) is = absurd (false≢true is)
start_silent k (Out act) is = refl

-- an item that starts no child that had some
pub first_push : (e : Exchange) (x : Item) → ((k : ℕ) → is_start k x ≡ true → child_out e.items k ≡ []) → StartsComeFirst e → StartsComeFirst (pushed e x)
first_push e x fresh first k started = go (list_any (is_start k) e.items) refl
  where
    go : (b : Bool) → list_any (is_start k) e.items ≡ b → child_out (since (is_start k) (e.items ++ x ∷ [])) k ≡ child_out (e.items ++ x ∷ []) k
    go true begun =
        ap (λ (l : List Item). child_out l k) (since_begun (is_start k) e.items x begun)
        ∙ (child_out-push (since (is_start k) e.items) x k ∙ (ap (λ (o : List ℕ). o ++ output_heard k x) (first k begun) ∙ sym (child_out-push e.items x k)))
    go false none =
        let is : is_start k x ≡ true = ap (λ (b : Bool). b || is_start k x) (sym none) ∙ (sym (list_any-push (is_start k) e.items x) ∙ started) in
        ap (λ (l : List Item). child_out l k) (since_first (is_start k) e.items x none)
        ∙ sym (child_out-push e.items x k ∙ (ap (λ (o : List ℕ). o ++ output_heard k x) (fresh k is) ∙ start_silent k x is))

-- .. or none
pub first_quiet : (e : Exchange) (x : Item) → ((k : ℕ) → is_start k x ≡ false) → StartsComeFirst e → StartsComeFirst (pushed e x)
first_quiet e x quiet first = first_push e x (λ k is. absurd (false≢true (sym (quiet k) ∙ is))) first

-- an act that starts no child of any connection
pub quiet_start : (k : ℕ) (act : Act) → ((c : ℕ) → child_started c (Out act) ≡ []) → is_start k (Out act) ≡ false
quiet_start k (Start d c j hop launch) none = absurd (some (c == c) (eq-eqb c c refl) (none c))
  where
    some : (b : Bool) → b ≡ true → (if b then d ∷ [] else []) ≡ [] → ⊥
    some true e is = cc
    some false e is = false≢true e
quiet_start k act none = refl

-- So does an event.
pub first_event : (e : Exchange) (ev : Event) → StartsComeFirst e → StartsComeFirst (pushed e (In ev))
first_event e ev first = first_quiet e (In ev) (λ k. refl) first

-- what came of the output of its child
pub output_behind : (site : Site) (c : ℕ) (e : Exchange) (next : ℕ) (legs : List Started) (v : View) → KnowsChildren site c e false next legs (Some v) → StartsComeFirst e
    → child_out (since (is_start v.number) e.items) v.number ≡ child_out e.items v.number
output_behind site c e next legs v k first = first v.number begun
  where
    begun : list_any (is_start v.number) e.items ≡ true
    begun = ap (λ (w : View). list_any (is_start w.number) e.items) k.runs.held_as ∙ k.runs.known.knows.begun
