-- What is due for the child of a WebSocket is given, act after act.
use Rattle.std.proofs.Common.{◌≡◌, ◌≤◌, ℕ, Bool, true, false, List, [], ◌∷◌, ◌++◌, map, refl, sym, ap, subst, ◌∙◌, append-nil, append_assoc, inl, inr}
use Rattle.std.specs.Prelude.{◌==◌, not, ◌&&◌, is_some}
use Rattle.std.specs.List.{AllByRecursion, list_any}
use Rattle.std.proofs.lemmas.Bool.{cases_Bool, eqb-true, false≢true}
use Rattle.host_base.specs.declared.site.Site.{Site}
use Rattle.host_trace.specs.declared.items.Act.{Act}
use Rattle.host_trace.specs.declared.items.Event.{Event}
use Rattle.host_trace.specs.declared.items.Item.{Item}
use Rattle.host_trace.specs.declared.items.Item.TheVariants.{In, Out}
use Rattle.host_trace.specs.Kinds.{names_child}
use Rattle.trace_model.specs.Exchange.{Exchange, all_of, pushed}
use Rattle.trace_model.specs.Exchanges.{current, current_after, ended_after}
use Rattle.trace_model.specs.Legs.{Leg}
use Rattle.child_core.specs.Due.{Due, Path, acted, acting, after, given}
use Rattle.child_core.specs.Knows.{KnowsRun}
use Rattle.child_core.specs.View.{View as Run, noted, plain}
use Rattle.child_core.proofs.MemoryLaws.{acting-due}
use Rattle.child_laws.specs.Children.{HeldAs}
use Rattle.child_laws.specs.Laws.{with_acts}
use Rattle.child_laws.specs.Step.{Counted, LegsOver, served, waiting}
use Rattle.child_laws.proofs.DealLaws.{items_push, over_push}
use Rattle.child_laws.proofs.DealtLaws.{counted_act, counted_ended, counted_list, turn_dropped, turn_served}
use Rattle.child_laws.proofs.DueLaws.{due_names, unrefused}
use Rattle.child_laws.proofs.ItemLaws.{unnamed_push}
use Rattle.child_laws.proofs.RunActLaws.{is_another}
use Rattle.talk_core.specs.Setting.{setting}
use Rattle.talk_core.proofs.GiveLaws.{texts_are_heard}
use Rattle.talk_laws.specs.Deals.{ChildActsDeal, LossesDeal, LostActsDeal, TalkDeals}
use Rattle.talk_laws.specs.TalkIs.{IsSpoken}
use Rattle.talk_laws.proofs.ActLaws.{due_small, small_quiet, with_more, with_none}
use Rattle.talk_laws.proofs.DealLaws.{goes_push, gone_push}
use Rattle.talk_laws.proofs.GreetedLaws.{greeted_unended}
use Rattle.talk_laws.proofs.HearLaws.{spoken_push}
use Rattle.talk_laws.proofs.HeldLaws.{held_given, held_known, held_may}
use Rattle.talk_laws.proofs.ListLaws.{once_act}

-- the child of a WebSocket, whose run may be ended for want of memory
record IsChild (site : Site) (c : ℕ) (e : Exchange) (legs : List Leg) (continued early : Bool) (held : Run) : Type 0 where
  view : Run
  held_as : HeldAs early held view
  spoken : IsSpoken site c e legs continued view.number
  run : KnowsRun (early && not (is_some view.outcome)) (setting c view.number site.limits) view e.items

-- what is known while acts are given to it
record Serving (site : Site) (c : ℕ) (L : List Item) (event : Event) (acts : List Act) (e : Exchange) (over : List Exchange) (legs : List Leg) (continued early : Bool) (next : ℕ) (held : Run) : Type 0 where
  child : IsChild site c e legs continued early held
  items : all_of e ≡ (L ++ In event ∷ []) ++ map Out acts
  fresh : (k : ℕ) → next ≤ k → list_any (names_child k) (all_of e) ≡ false
  counted : Counted (L ++ In event ∷ []) acts held
  ended_then : AllByRecursion (LegsOver site c (L ++ In event ∷ []) acts e.before) over
  goes_on : current_after site c (current site c L) (In event ∷ map Out acts) ≡ e
  gone : ended_after site c (current site c L) (In event ∷ map Out acts) ≡ over

module _ (site : Site) (c : ℕ) (L : List Item) (event : Event) (over : List Exchange) (legs : List Leg) (continued early may : Bool) (next : ℕ) (two : 2 ≤ site.limits.head) where
  abbrev heard : List Item
  heard = L ++ In event ∷ []

  module _ (acts : List Act) (e : Exchange) (held : Run) (act : Act) (due : Due may held act) (k : Serving site c L event acts e over legs continued early next held) where
    child_then : IsChild site c (pushed e (Out act)) legs continued early (given held act)
    child_then =
        let q = small_quiet c act (due_small may held act due) in
        let v : Run = k.child.view in
        record {
          view = noted c v plain (Out act);
          held_as = held_given early may (setting c v.number site.limits) (texts_are_heard c v.number site.limits) held v e.items act due k.child.held_as;
          spoken = spoken_push site c e legs continued v.number k.child.spoken (Out act) two refl q.unwritten q.starts refl (once_act c e act q.asks_none k.child.spoken.once);
          run = held_known early may (setting c v.number site.limits) (texts_are_heard c v.number site.limits) held v e.items act due k.child.held_as k.child.run;
        }

    same_number : held.number ≡ k.child.view.number
    same_number = go early k.child.held_as
      where
        go : (early : Bool) → HeldAs early held k.child.view → held.number ≡ k.child.view.number
        go false is = ap (λ (v : Run). v.number) is
        go true is = ap (λ (v : Run). v.number) is

    counted_then : Counted heard (acts ++ act ∷ []) (given held act)
    unfolding child_then
    counted_then = go early k.child.held_as child_then.held_as
      where
        of_list : Counted heard acts k.child.view → Counted heard (acts ++ act ∷ []) (noted c k.child.view plain (Out act))
        of_list n =
            counted_act heard acts act c (early && not (is_some k.child.view.outcome)) (setting c k.child.view.number site.limits) k.child.view e.items
            (held_may early may (setting c k.child.view.number site.limits) (texts_are_heard c k.child.view.number site.limits) held k.child.view e.items act due k.child.held_as k.child.run) n

        go : (early : Bool) → HeldAs early held k.child.view → HeldAs early (given held act) (noted c k.child.view plain (Out act)) → Counted heard (acts ++ act ∷ []) (given held act)
        go false is then_is = subst (Counted heard (acts ++ act ∷ [])) (sym then_is) (of_list (subst (Counted heard acts) is k.counted))
        go true is then_is =
            subst (Counted heard (acts ++ act ∷ [])) (sym then_is)
            (counted_ended heard (acts ++ act ∷ []) (noted c k.child.view plain (Out act)) (of_list (counted_list heard acts k.child.view (subst (Counted heard acts) is k.counted))))

    other : (j : ℕ) → (j == k.child.view.number) ≡ false → names_child j (Out act) ≡ false
    other j apart = due_names may held act due j (ap (λ n. j == n) same_number ∙ apart)

    leaves_over : (j : ℕ) → list_any (names_child j) e.before ≡ true → names_child j (Out act) ≡ false
    leaves_over j named = other j (elim (cases_Bool (j == k.child.view.number)) [
      | inl same ↦
          absurd (false≢true (sym k.child.spoken.before.unnamed ∙ subst (λ n. list_any (names_child n) e.before ≡ true) (eqb-true j k.child.view.number same) named))
      | inr apart ↦ apart
    ])

    serve_one : Serving site c L event (acts ++ act ∷ []) (pushed e (Out act)) over legs continued early next (given held act)
    serve_one =
        let s = child_then.spoken in
        let on = greeted_unended site c (pushed e (Out act)) continued s.value s.request s.mapped s.greeted in
        record {
          child = child_then;
          items = items_push e heard acts act k.items;
          fresh = λ j le.
              unnamed_push j e (Out act)
              (other j (is_another (early && not (is_some k.child.view.outcome)) (setting c k.child.view.number site.limits) k.child.view e.before e.items j k.child.run (k.fresh j le))) (k.fresh j le);
          counted = counted_then;
          ended_then = over_push site c heard acts act e.before over leaves_over k.ended_then;
          goes_on = goes_push site c L event acts e over act k.goes_on on;
          gone = gone_push site c L event acts e over act k.goes_on k.gone on;
        }

  serve_all : (more acts : List Act) (e : Exchange) (held : Run) → Path may held more → Serving site c L event acts e over legs continued early next held
      → Serving site c L event (acts ++ more) (with_acts e more) over legs continued early next (after held more)
  serve_all [] acts e held path k =
      subst (λ l. Serving site c L event l (with_acts e []) over legs continued early next held) (sym (append-nil acts))
      (subst (λ d. Serving site c L event acts d over legs continued early next held) (sym (with_none e)) k)
  serve_all (a ∷ more) acts e held path k =
      subst (λ l. Serving site c L event l (with_acts e (a ∷ more)) over legs continued early next (after (given held a) more)) (append_assoc acts (a ∷ []) more)
      (subst (λ d. Serving site c L event ((acts ++ a ∷ []) ++ more) d over legs continued early next (after (given held a) more)) (with_more e a more)
      (serve_all more (acts ++ a ∷ []) (pushed e (Out a)) (given held a) path.1 (serve_one acts e held a path.0 k)))

  child_served : (acts : List Act) (e : Exchange) (held : Run) → IsChild site c e legs continued early held → TalkDeals site c L event acts e over waiting next held
      → TalkDeals site c L event (acts ++ acting may held) (with_acts e (acting may held)) over (served may) next (acted may held)
  child_served acts e held child d =
      let due = acting-due may held in
      let all : Serving site c L event (acts ++ acting may held) (with_acts e (acting may held)) over legs continued early next (acted may held) =
      subst (Serving site c L event (acts ++ acting may held) (with_acts e (acting may held)) over legs continued early next) due.after_is
      (serve_all (acting may held) acts e held due.path
      (record { child = child; items = d.items; fresh = d.fresh; counted = d.last.0; ended_then = d.ended_then; goes_on = d.goes_on; gone = d.gone })) in
      record {
        items = all.items;
        fresh = all.fresh;
        last = (all.counted, turn_served heard may held d.last.1);
        ended_then = all.ended_then;
        goes_on = all.goes_on;
        gone = all.gone;
      }

pub child_acts_deal : ChildActsDeal
child_acts_deal site c L event acts e over next legs continued may t v two is d =
    child_served site c L event over legs continued false may next two acts e v (record { view = v; held_as = refl; spoken = is.spoken; run = is.stands.run }) d

pub lost_acts_deal : LostActsDeal
lost_acts_deal site c L event acts e over next legs continued early may held two is d =
    child_served site c L event over legs continued early may next two acts e held
    (record { view = is.view; held_as = is.held_as; spoken = is.spoken; run = is.run }) d

pub losses_deal : LossesDeal
losses_deal site c L event acts e over turn next legs continued t v may is d = record {
  items = d.items;
  fresh = d.fresh;
  last = (
    counted_ended (L ++ In event ∷ []) acts v d.last.0,
    turn_dropped (L ++ In event ∷ []) turn v (unrefused false (setting c v.number site.limits) v e.items is.stands.run) may d.last.1,
  );
  ended_then = d.ended_then;
  goes_on = d.goes_on;
  gone = d.gone;
}
