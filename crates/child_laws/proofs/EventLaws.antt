-- An event that fits, and what it makes of the legs.
use Rattle.std.proofs.Common.{◌≡◌, ◌≤◌, ℕ, ◌-◌, Bool, true, false, List, Option, Some, None, refl, sym, ap, ◌∙◌, append-nil, length}
use Rattle.std.specs.Prelude.{is_some}
use Rattle.std.specs.List.{list_any}
use Rattle.host_trace.specs.Kinds.{names_child}
use Rattle.host_base.specs.declared.request.Request.{Request}
use Rattle.host_base.specs.declared.site.Site.{Site}
use Rattle.host_trace.specs.declared.items.Event.{Event}
use Rattle.host_trace.specs.declared.items.Item.TheVariants.{In}
use Rattle.host_trace.proofs.ProjectionLaws.{children-push}
use Rattle.own_traces.specs.OwnFits.{fits_own}
use Rattle.child_core.specs.View.{View, noted}
use Rattle.child_core.specs.Knows.{Admits}
use Rattle.child_core.proofs.TellLaws.{run-admits}
use Rattle.trace_model.specs.Exchange.{Exchange, pushed, all_of, reading}
use Rattle.trace_model.specs.Legs.{Leg, offered_at}
use Rattle.trace_model.specs.Readings.{startable}
use Rattle.child_laws.specs.Setting.{setting}
use Rattle.child_laws.specs.Children.{KnowsLeg, SettledLeg, KnowsLast, KnowsRuns, KnowsChildren, NoMore}
use Rattle.child_laws.specs.Heard.{note_at, heard_by, run_heard}
use Rattle.child_laws.proofs.NoteLaws.{note_offers}
use Rattle.child_laws.proofs.HeardLaws.{heard_is}
use Rattle.child_laws.proofs.ItemLaws.{all_map, fits_unnamed, fits_it, unnamed_push, offered_same, leg_noted, settled_noted, last_is, last_push}

module _ (site : Site) (c : ℕ) (e : Exchange) (ev : Event) (found : Bool) (two : 2 ≤ site.limits.head) (fits : fits_own site.limits.children (all_of e) ev ≡ true) where
  leg_admits : (early : Bool) (leg : Leg) (v : View) (first : Request) → startable (reading site c e) ≡ Some first → KnowsLeg site c e early leg v
      → Admits early (setting site c e leg.hop) v e.items (note_at site c e leg.hop found (In ev)) (In ev)
  leg_admits early leg v first s k =
      run-admits early (setting site c e leg.hop) v e.items (note_at site c e leg.hop found (In ev)) ev k.knows
      (fits_it early (setting site c e leg.hop) v e.before e.items ev k.unnamed k.knows fits) (note_offers site c e (In ev) v leg.hop found k.plain two first s)

  leg_heard : (early : Bool) (leg : Leg) (v : View) (first : Request) → startable (reading site c e) ≡ Some first → KnowsLeg site c e early leg v
      → KnowsLeg site c (pushed e (In ev)) early leg (noted c v (note_at site c e leg.hop found (In ev)) (In ev))
  leg_heard early leg v first s k = leg_noted site c e early leg v (note_at site c e leg.hop found (In ev)) (In ev) (leg_admits early leg v first s k) k

  leg_waits : (leg : Leg) (v : View) → KnowsLeg site c e false leg v → is_some v.outcome ≡ false → v.whole ≡ (offered_at site c e leg.hop e.items).whole
  leg_waits leg v k u = k.knows.whole u k.plain ∙ ap (λ o. o.whole) (offered_same site c e leg.hop e.items)

  -- what is known of each leg of whose view is told what `Then` says, once it is known
  module _ (More Then : View → Type 0) (so : (leg : Leg) (v : View) → KnowsLeg site c (pushed e (In ev)) false leg v → Then v) where
    older_heard : (first : Request) → startable (reading site c e) ≡ Some first → (leg : Leg) → SettledLeg More site c e leg → SettledLeg Then site c (pushed e (In ev)) leg
    older_heard first s leg k =
        let known = leg_heard false leg k.view first s k.known in
        record {
          view = noted c k.view (note_at site c e leg.hop found (In ev)) (In ev);
          known = known;
          settled = settled_noted c k.view (note_at site c e leg.hop found (In ev)) (In ev) k.settled;
          more = so leg (noted c k.view (note_at site c e leg.hop found (In ev)) (In ev)) known;
        }

    last_heard : (ls : List Leg) (held : View) → KnowsLast More site c e false ls held → KnowsLast Then site c (pushed e (In ev)) false ls (heard_by site c e (length ls - 1) found ev held)
    last_heard ls held k =
        let first : Request = k.led.reaches.first in
        let s : startable (reading site c e) ≡ Some first = k.led.reaches.start in
        last_push More site c e false ls held k Then (In ev) false (noted c k.view (note_at site c e k.leg.hop found (In ev)) (In ev)) (heard_by site c e (length ls - 1) found ev held) two refl refl
        (ap (λ h. heard_by site c e h found ev held) (last_is More site c e false ls held k)
        ∙ (ap (heard_by site c e k.leg.hop found ev) k.held_as
        ∙ sym (heard_is site c e k.leg.hop found k.view k.known.plain (leg_waits k.leg k.view k.known) k.known.spent ev)))
        (leg_heard false k.leg k.view first s k.known)
        (all_map (SettledLeg More site c e) (SettledLeg Then site c (pushed e (In ev))) k.older (older_heard first s) k.settled)

    pub runs_heard : (ls : List Leg) (run : Option View) → KnowsRuns More site c e false ls run → KnowsRuns Then site c (pushed e (In ev)) false ls (run_heard site c e ls found ev run)
    runs_heard ls None k = (k.0, children-push e.items (In ev) c ∙ (append-nil _ ∙ k.1))
    runs_heard ls (Some held) k = last_heard ls held k

  pub fresh_heard : (next : ℕ) → ((k : ℕ) → next ≤ k → list_any (names_child k) (all_of e) ≡ false) → (k : ℕ) → next ≤ k → list_any (names_child k) (all_of (pushed e (In ev))) ≡ false
  fresh_heard next fresh k le = unnamed_push k e (In ev) (fits_unnamed k (all_of e) (fresh k le) site.limits.children ev fits) (fresh k le)

pub events_known : (site : Site) (c : ℕ) (e : Exchange) (next : ℕ) (ls : List Leg) (run : Option View) (ev : Event) (found : Bool) → 2 ≤ site.limits.head
    → fits_own site.limits.children (all_of e) ev ≡ true → KnowsChildren site c e false next ls run
    → KnowsChildren site c (pushed e (In ev)) false next ls (run_heard site c e ls found ev run)
events_known site c e next ls run ev found two fits k = record {
  fresh = fresh_heard site c e ev found two fits next k.fresh;
  runs = runs_heard site c e ev found two fits NoMore NoMore (λ leg v known. tt) ls run k.runs;
}
