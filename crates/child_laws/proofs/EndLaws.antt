-- The end of a step: all rules on the children of its exchanges hold.
use Rattle.std.proofs.Common.{◌≡◌, ℕ, Bool, true, false, List, [], ◌∷◌, ◌++◌, map, Option, Some, None, sym, subst, inl, inr}
use Rattle.std.specs.Prelude.{is_some}
use Rattle.std.specs.List.{AllByRecursion}
use Rattle.std.proofs.lemmas.Bool.{cases_Bool}
use Rattle.host_base.specs.declared.site.Site.{Site}
use Rattle.host_trace.specs.declared.items.Act.{Act}
use Rattle.host_trace.specs.declared.items.Event.{Event}
use Rattle.host_trace.specs.declared.items.Item.{Item}
use Rattle.host_trace.specs.declared.items.Item.TheVariants.{In, Out}
use Rattle.host_trace.specs.Trace.{after_step, step_of}
use Rattle.trace_child.specs.ChildGood.{ChildGood}
use Rattle.child_core.specs.Due.{is_at_rest}
use Rattle.child_core.specs.View.{View}
use Rattle.child_core.specs.Walk.{Deserved}
use Rattle.trace_model.specs.Answer.{legs}
use Rattle.trace_model.specs.Children.{ChildrenGood, LegsGood}
use Rattle.trace_model.specs.Demands.{has_room}
use Rattle.trace_model.specs.Exchange.{Exchange}
use Rattle.trace_model.specs.Exchanges.{current, ended_after}
use Rattle.trace_model.specs.Legs.{Leg, run_of}
use Rattle.child_laws.specs.Legs.{SameRun, SameRuns}
use Rattle.child_laws.specs.Children.{SettledLeg, KnowsRuns}
use Rattle.child_laws.specs.Step.{Dealt, Turn, waiting, begun, served, TurnIs, LastIs, LegOver, LegsOver, DealsWith, was}
use Rattle.child_laws.specs.Moves.{EndsAt}
use Rattle.child_laws.proofs.ItemLaws.{all_map, all_and}
use Rattle.child_laws.proofs.KnowLaws.{legs_known}
use Rattle.child_laws.proofs.DealtLaws.{Apart, untouched_fair, settled_fair, settled_rests, unstarted_rests, decided_rests, decided_fair}
use Rattle.child_laws.proofs.DueLaws.{unrefused}
use Rattle.child_core.specs.Calls.{is_settled}
use Rattle.child_laws.specs.Setting.{setting}
use Rattle.child_laws.proofs.GoodLaws.{good_leg, good_settled}

-- nothing is due for the last child, and what it was given is wanted
record EndsWell (heard : List Item) (room : Bool) (v : View) : Type 0 where
  rest : is_at_rest room v ≡ true
  deserved : Deserved room (was heard v) v

ends_well : (heard : List Item) (room : Bool) (turn : Turn) (v : View) → Apart v → TurnIs heard turn v → EndsAt room turn (Some v) → EndsWell heard room v
ends_well heard room waiting v apart t at = record { rest = at; deserved = untouched_fair heard v t room }
ends_well heard room begun v apart t at = record { rest = unstarted_rests room v t.1; deserved = untouched_fair heard v t.0 room }
ends_well heard room (served may) v apart t at = elim (cases_Bool (is_some v.outcome)) [
  | inl decided ↦ record { rest = decided_rests may room v decided t.1; deserved = decided_fair heard may room v decided t.0 }
  | inr undecided ↦ elim (cases_Bool (is_settled v)) [
    | inl settled ↦ record { rest = settled_rests room v apart settled; deserved = settled_fair heard may v apart settled t.0 room }
    | inr runs ↦ subst (λ b. EndsWell heard b v) (at undecided runs) (record { rest = t.1; deserved = t.0 })
  ]
]

module _ (site : Site) (c : ℕ) (e : Exchange) (heard : List Item) (acts : List Act) (room : Bool) where
  abbrev Good : Leg → Type 0
  Good leg = ChildGood (run_of site c e leg) room heard acts e.items

  -- .. of whatever leg has the same run
  abbrev Runs : Leg → Type 0
  Runs leg = (same : Leg) → SameRun leg same → Good same

  of_runs : (ls walked : List Leg) → SameRuns ls walked → AllByRecursion Runs ls → AllByRecursion Good walked
  of_runs [] [] same a = tt
  of_runs [] (leg ∷ walked) same a = absurd same
  of_runs (leg ∷ ls) [] same a = absurd same
  of_runs (leg ∷ ls) (later ∷ walked) same a = (a.0 later same.0, of_runs ls walked same.1 a.1)

  runs_good : (turn : Turn) (ls : List Leg) (run : Option View) → KnowsRuns (Dealt heard acts) site c e false ls run → LastIs heard acts turn run → EndsAt room turn run → AllByRecursion Runs ls
  runs_good turn ls None k l at = subst (AllByRecursion Runs) (sym k.0) tt
  runs_good turn ls (Some held) k l at =
      let last : LastIs heard acts turn (Some k.view) = subst (λ v. LastIs heard acts turn (Some v)) k.held_as l in
      let well : EndsWell heard room k.view = ends_well heard room turn k.view (unrefused false (setting site c e k.leg.hop) k.view e.items k.known.knows) last.1 (subst (λ v. EndsAt room turn (Some v)) k.held_as at) in
      let good : Runs k.leg = λ later same. good_leg site c e k.leg later room k.view heard acts same k.known well.rest well.deserved last.0 in
      subst (AllByRecursion Runs) (sym k.are)
      (all_and Runs k.older (k.leg ∷ [])
      (all_map (SettledLeg (Dealt heard acts) site c e) Runs k.older (λ leg s later same. good_settled site c e leg later heard acts same s room) k.settled)
      (good, tt))

  pub legs_good : (turn : Turn) (ls : List Leg) (run : Option View) → KnowsRuns (Dealt heard acts) site c e false ls run → LastIs heard acts turn run → EndsAt room turn run
      → AllByRecursion Good (legs site c e)
  legs_good turn ls run k l at = of_runs ls (legs site c e) (legs_known (Dealt heard acts) site c e false ls run k) (runs_good turn ls run k l at)

pub end_well : (site : Site) (c : ℕ) (L : List Item) (event : Event) (acts : List Act) (turn : Turn) (next : ℕ) (ls : List Leg) (run : Option View)
    → DealsWith site c (L ++ In event ∷ []) acts (current site c (after_step L event acts)) (ended_after site c (current site c L) (In event ∷ map Out acts)) false turn next ls run
    → EndsAt (has_room c (after_step L event acts)) turn run → ChildrenGood site c (step_of L event acts)
end_well site c L event acts turn next ls run k at =
    let room : Bool = has_room c (after_step L event acts) in
    let heard : List Item = L ++ In event ∷ [] in
    let over : List Exchange = ended_after site c (current site c L) (In event ∷ map Out acts) in
    let e : Exchange = current site c (after_step L event acts) in
    all_and (LegsGood site c (step_of L event acts)) over (e ∷ [])
    (all_map (LegsOver site c heard acts e.before) (LegsGood site c (step_of L event acts)) over
    (λ d. all_map (LegOver site c heard acts e.before d) (λ leg. ChildGood (run_of site c d leg) room heard acts d.items) (legs site c d) (λ leg o. o.good room)) k.ended)
    (legs_good site c e heard acts room turn ls run k.runs k.last at, tt)
