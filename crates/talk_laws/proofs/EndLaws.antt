-- At the end of a step all rules on its children hold.
use Rattle.std.proofs.Common.{◌≡◌, ℕ, Bool, true, false, List, [], ◌∷◌, ◌++◌, map, Some, sym, ap, subst, ◌∙◌, inl, inr}
use Rattle.std.specs.Prelude.{is_some}
use Rattle.std.specs.List.{AllByRecursion}
use Rattle.std.proofs.lemmas.Bool.{cases_Bool}
use Rattle.host_base.specs.declared.site.ScriptKind.TheVariants.{WebSocket}
use Rattle.host_base.specs.declared.site.Site.{Site}
use Rattle.host_trace.specs.declared.items.Act.{Act}
use Rattle.host_trace.specs.declared.items.Event.{Event}
use Rattle.host_trace.specs.declared.items.Item.{Item}
use Rattle.host_trace.specs.declared.items.Item.TheVariants.{In, Out}
use Rattle.host_trace.specs.Trace.{after_step, step_of}
use Rattle.trace_child.specs.ChildGood.{ChildGood}
use Rattle.trace_model.specs.Answer.{legs as legs_of}
use Rattle.trace_model.specs.Children.{ChildrenGood, LegsGood}
use Rattle.trace_model.specs.Demands.{has_room}
use Rattle.trace_model.specs.Exchange.{Exchange}
use Rattle.trace_model.specs.Exchanges.{current, ended_after}
use Rattle.trace_model.specs.Legs.{Leg, leg_of, run_of}
use Rattle.trace_model.proofs.ExchangeLaws.{current-append}
use Rattle.child_core.specs.Calls.{is_settled}
use Rattle.child_core.specs.Due.{is_at_rest}
use Rattle.child_core.specs.Knows.{KnowsRun}
use Rattle.child_core.specs.View.{View as Run}
use Rattle.child_core.specs.Walk.{Deserved}
use Rattle.child_laws.specs.Moves.{EndsAt}
use Rattle.child_laws.specs.Step.{LegOver, LegsOver, Turn, TurnIs, begun, served, waiting, was}
use Rattle.child_laws.proofs.DealtLaws.{Apart, decided_fair, decided_rests, settled_fair, settled_rests, unstarted_rests, untouched_fair}
use Rattle.child_laws.proofs.DueLaws.{unrefused}
use Rattle.child_laws.proofs.GoodLaws.{good_child}
use Rattle.child_laws.proofs.ItemLaws.{all_and, all_map}
use Rattle.talk_core.specs.Knows.{run_of as talk_run}
use Rattle.talk_core.specs.Setting.{setting}
use Rattle.talk_laws.specs.Deals.{TalkDeals, TalksEndWell}
use Rattle.talk_laws.specs.TalkIs.{IsSpoken}
use Rattle.talk_laws.proofs.TalkLaws.{alike_now, only_leg, run_same}

-- nothing is due for the child, and what it was given is wanted
record IsDone (heard : List Item) (room : Bool) (v : Run) : Type 0 where
  rest : is_at_rest room v ≡ true
  deserved : Deserved room (was heard v) v

done_at : (heard : List Item) (room : Bool) (turn : Turn) (v : Run) → Apart v → TurnIs heard turn v → EndsAt room turn (Some v) → IsDone heard room v
done_at heard room waiting v apart t at = record { rest = at; deserved = untouched_fair heard v t room }
done_at heard room begun v apart t at = record { rest = unstarted_rests room v t.1; deserved = untouched_fair heard v t.0 room }
done_at heard room (served may) v apart t at = elim (cases_Bool (is_some v.outcome)) [
  | inl decided ↦ record { rest = decided_rests may room v decided t.1; deserved = decided_fair heard may room v decided t.0 }
  | inr undecided ↦ elim (cases_Bool (is_settled v)) [
    | inl settled ↦ record { rest = settled_rests room v apart settled; deserved = settled_fair heard may v apart settled t.0 room }
    | inr runs ↦ subst (λ b. IsDone heard b v) (at undecided runs) (record { rest = t.1; deserved = t.0 })
  ]
]

module _ (site : Site) (c : ℕ) (L : List Item) (event : Event) (acts : List Act) (e : Exchange) (over : List Exchange) (turn : Turn) (next : ℕ) (legs : List Leg) (continued : Bool) (v : Run)
    (d : TalkDeals site c L event acts e over turn next v) (at : EndsAt (has_room c (after_step L event acts)) turn (Some v))
    (s : IsSpoken site c e legs continued v.number) (kind : v.kind ≡ WebSocket) (known : KnowsRun false (setting c v.number site.limits) v e.items) where
  abbrev room : Bool
  room = has_room c (after_step L event acts)

  abbrev heard : List Item
  heard = L ++ In event ∷ []

  abbrev Good : Leg → Type 0
  Good leg = ChildGood (run_of site c e leg) room heard acts e.items

  child_good : ChildGood (talk_run c site.limits v) room heard acts e.items
  child_good =
      let done = done_at heard room turn v (unrefused false (setting c v.number site.limits) v e.items known) d.last.1 at in
      good_child (setting c v.number site.limits) room v e.items heard acts known done.rest done.deserved d.last.0

  leg_good : Good (leg_of 0 WebSocket s.request v.number)
  leg_good =
      subst (λ r. ChildGood r room heard acts e.items) (run_same site c e legs continued v s kind)
      ((alike_now site c e legs continued v s kind).child room heard acts child_good)

  all_good : AllByRecursion Good (legs_of site c e)
  all_good = subst (AllByRecursion Good) (sym (only_leg site c e legs continued v s kind)) (leg_good, tt)

  pub ends_well : ChildrenGood site c (step_of L event acts)
  ends_well =
      let now_is : current site c (after_step L event acts) ≡ e = current-append site c L (In event ∷ map Out acts) ∙ d.goes_on in
      let these : AllByRecursion (LegsGood site c (step_of L event acts)) (over ++ e ∷ []) =
      all_and (LegsGood site c (step_of L event acts)) over (e ∷ [])
      (all_map (LegsOver site c heard acts e.before) (LegsGood site c (step_of L event acts)) over
      (λ f. all_map (LegOver site c heard acts e.before f) (λ leg. ChildGood (run_of site c f leg) room heard acts f.items) (legs_of site c f) (λ leg o. o.good room)) d.ended_then)
      (all_good, tt) in
      subst (λ f. AllByRecursion (LegsGood site c (step_of L event acts)) (ended_after site c (current site c L) (In event ∷ map Out acts) ++ f ∷ [])) (sym now_is)
      (subst (λ es. AllByRecursion (LegsGood site c (step_of L event acts)) (es ++ e ∷ [])) (sym d.gone) these)

pub talks_end_well : TalksEndWell
talks_end_well site c L event acts e over turn next legs continued v d at = record {
  talks = λ t is. ends_well site c L event acts e over turn next legs continued v d at is.spoken is.kind is.stands.run;
  lost = λ is.
      ends_well site c L event acts e over turn next legs continued v d at
      (subst (λ (w : Run). IsSpoken site c e legs continued w.number) (sym is.held_as) is.spoken) (ap (λ (w : Run). w.kind) is.held_as ∙ is.kind)
      (subst (λ (w : Run). KnowsRun false (setting c w.number site.limits) w e.items) (sym is.held_as) is.run);
}
