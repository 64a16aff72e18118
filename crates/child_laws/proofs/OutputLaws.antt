-- What is kept of the last child's output.
use Rattle.std.proofs.Common.{◌≡◌, ℕ, zero, suc, Bool, false, List, [], ◌∷◌, ◌++◌, Some, refl, sym, ap, subst, ◌∙◌, append-nil}
use Rattle.std.specs.Prelude.{not}
use Rattle.host_base.specs.declared.site.Site.{Site}
use Rattle.host_trace.specs.declared.items.Act.{Act}
use Rattle.host_trace.specs.declared.items.Event.{Event}
use Rattle.host_trace.specs.declared.items.Item.{Item}
use Rattle.host_trace.specs.declared.items.Item.TheVariants.{In, Out}
use Rattle.host_trace.proofs.ProjectionLaws.{child_out-push}
use Rattle.child_core.specs.Output.{HoldsOutput}
use Rattle.child_core.specs.View.{View, Note, noted}
use Rattle.child_core.proofs.OutputLaws.{holds-noted}
use Rattle.trace_model.specs.Exchange.{Exchange}
use Rattle.trace_model.specs.Legs.{Leg}
use Rattle.child_laws.specs.Children.{KnowsLast, KnowsChildren, NoMore}
use Rattle.child_laws.specs.Heard.{note_at, heard_by, last_hop}
use Rattle.child_laws.proofs.HeardLaws.{heard_is}
use Rattle.child_laws.proofs.ItemLaws.{offered_same, last_is}

found_is : (site : Site) (c : ℕ) (e : Exchange) (hop : ℕ) (found : Bool) (x : Item) → (note_at site c e hop found x).found ≡ found
found_is site c e zero found x = refl
found_is site c e (suc hop) found x = refl

pub events_hold : (site : Site) (c : ℕ) (e : Exchange) (next : ℕ) (ls : List Leg) (v : View) (handed : List ℕ) (ev : Event) (found : Bool) → KnowsChildren site c e false next ls (Some v)
    → HoldsOutput false v handed e.items → HoldsOutput (not found) (heard_by site c e (last_hop ls) found ev v) handed (e.items ++ In ev ∷ [])
events_hold site c e next ls v handed ev found k h =
    let r : KnowsLast NoMore site c e false ls v = k.runs in
    let n : Note = note_at site c e r.leg.hop found (In ev) in
    let is : noted c r.view n (In ev) ≡ heard_by site c e (last_hop ls) found ev v =
    heard_is site c e r.leg.hop found r.view r.known.plain (λ u. r.known.knows.whole u r.known.plain ∙ ap (λ o. o.whole) (offered_same site c e r.leg.hop e.items)) r.known.spent ev
    ∙ (ap (heard_by site c e r.leg.hop found ev) (sym r.held_as) ∙ ap (λ hop. heard_by site c e hop found ev v) (sym (last_is NoMore site c e false ls v r))) in
    subst (λ w. HoldsOutput (not found) w handed (e.items ++ In ev ∷ [])) is
    (subst (λ b. HoldsOutput (not b) (noted c r.view n (In ev)) handed (e.items ++ In ev ∷ [])) (found_is site c e r.leg.hop found (In ev))
    (holds-noted false c r.view handed e.items n (In ev) (subst (λ w. HoldsOutput false w handed e.items) r.held_as h)))

pub acts_bring : (lost : Bool) (v : View) (handed : List ℕ) (L : List Item) (act : Act) → HoldsOutput lost v handed L → HoldsOutput lost v handed (L ++ Out act ∷ [])
acts_bring lost v handed L act h = record {
  rest = h.rest;
  front = h.front ∙ sym (child_out-push L (Out act) v.number ∙ append-nil _);
  kept = h.kept;
  dropped = h.dropped;
}
