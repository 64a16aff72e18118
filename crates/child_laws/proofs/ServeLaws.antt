-- What is due for the last child, given in one go.
use Rattle.std.proofs.Common.{◌≡◌, ◌≤◌, ℕ, Bool, true, false, List, [], ◌∷◌, ◌++◌, map, Some, refl, sym, ap, subst, ◌∙◌, append-nil, append_assoc, inl, inr}
use Rattle.std.specs.Prelude.{not, ◌&&◌, ◌==◌, is_some}
use Rattle.std.specs.List.{list_any, AllByRecursion}
use Rattle.std.proofs.lemmas.Bool.{cases_Bool, false≢true, eqb-true}
use Rattle.host_base.specs.declared.site.Site.{Site}
use Rattle.host_trace.specs.declared.items.Act.{Act}
use Rattle.host_trace.specs.declared.items.Item.{Item}
use Rattle.host_trace.specs.declared.items.Item.TheVariants.{Out}
use Rattle.host_trace.specs.Kinds.{names_child}
use Rattle.child_core.specs.Due.{Due, Path, after, given, acted, acting}
use Rattle.child_core.specs.Memory.{AreDue}
use Rattle.child_core.specs.View.{View, plain, noted}
use Rattle.child_core.proofs.MemoryLaws.{acting-due}
use Rattle.child_core.proofs.TellLaws.{noted-other}
use Rattle.trace_model.specs.Exchange.{Exchange, pushed, all_of}
use Rattle.trace_model.specs.Exchanges.{ends_by, ended_by, has_ended, next_by, current_after, ended_after}
use Rattle.trace_model.specs.Legs.{Leg}
use Rattle.child_laws.specs.Setting.{setting}
use Rattle.child_laws.specs.Children.{HeldAs, KnowsLast}
use Rattle.child_laws.specs.Step.{Counted, Dealt, waiting, served, LegsOver, DealsWith}
use Rattle.child_laws.specs.Laws.{with_acts}
use Rattle.child_laws.proofs.ActLaws.{Stays}
use Rattle.child_laws.proofs.DueLaws.{due_names, due_concerns}
use Rattle.child_laws.proofs.RunActLaws.{last_given, fresh_given, unsettled, may_act, held_given, same_number}
use Rattle.child_laws.proofs.KnowLaws.{unsettled_is}
use Rattle.child_laws.proofs.DealtLaws.{counted_act, counted_ended, counted_list, turn_served}
use Rattle.child_laws.proofs.DealLaws.{items_push, over_push, dealt_other}

-- what is known while acts are given to the last child
record Serves (site : Site) (c : ℕ) (heard : List Item) (acts : List Act) (e : Exchange) (over : List Exchange) (early : Bool) (next : ℕ) (ls : List Leg) (held : View) : Type 0 where
  items : all_of e ≡ heard ++ map Out acts
  fresh : (k : ℕ) → next ≤ k → list_any (names_child k) (all_of e) ≡ false
  runs : KnowsLast (Dealt heard acts) site c e early ls held
  counted : Counted heard acts held
  ended : AllByRecursion (LegsOver site c heard acts e.before) over

-- after the first of some acts the exchange goes on, unless that is the last of them
pub record Flows (site : Site) (c : ℕ) (e : Exchange) (more : List Act) : Type 0 where
  pub on : current_after site c e (map Out more) ≡ next_by site c (with_acts e more) (has_ended site c (with_acts e more))
  pub over : ended_after site c e (map Out more) ≡ ended_by (with_acts e more) (has_ended site c (with_acts e more))

module _ (site : Site) (c : ℕ) (heard : List Item) (two : 2 ≤ site.limits.head) (over : List Exchange) (early may : Bool) (next : ℕ) (ls : List Leg) where
  module _ (acts : List Act) (e : Exchange) (held : View) (act : Act) (due : Due may held act) (k : Serves site c heard acts e over early next ls held) where
    act_stays : Stays (Dealt heard acts) (Dealt heard (acts ++ act ∷ [])) c act
    act_stays v other settled d =
        subst (Dealt heard (acts ++ act ∷ [])) (sym (noted-other c v (Out act) (due_concerns may c v.number held act due other))) (dealt_other heard acts act v other d)

    counted_then : Counted heard (acts ++ act ∷ []) (given held act)
    counted_then = go early k.runs.held_as (held_given (Dealt heard acts) site c e early may ls held act due k.runs early k.runs.held_as)
      where
        of_list : Counted heard acts k.runs.view → Counted heard (acts ++ act ∷ []) (noted c k.runs.view plain (Out act))
        of_list n = counted_act heard acts act c (early && not (is_some k.runs.view.outcome)) (setting site c e k.runs.leg.hop) k.runs.view e.items (may_act (Dealt heard acts) site c e early may ls held act due k.runs) n

        go : (early : Bool) → HeldAs early held k.runs.view → HeldAs early (given held act) (noted c k.runs.view plain (Out act)) → Counted heard (acts ++ act ∷ []) (given held act)
        go false is then_is = subst (Counted heard (acts ++ act ∷ [])) (sym then_is) (of_list (subst (Counted heard acts) is k.counted))
        go true is then_is =
            subst (Counted heard (acts ++ act ∷ [])) (sym then_is)
            (counted_ended heard (acts ++ act ∷ []) (noted c k.runs.view plain (Out act)) (of_list (counted_list heard acts k.runs.view (subst (Counted heard acts) is k.counted))))

    leaves_over : (j : ℕ) → list_any (names_child j) e.before ≡ true → names_child j (Out act) ≡ false
    leaves_over j named = due_names may held act due j (elim (cases_Bool (j == held.number)) [
      | inl same ↦
          let mine : j ≡ k.runs.view.number = eqb-true j held.number same ∙ same_number (Dealt heard acts) site c e early may ls held act due k.runs in
          absurd (false≢true (sym k.runs.known.unnamed ∙ subst (λ n. list_any (names_child n) e.before ≡ true) mine named))
      | inr other ↦ other
    ])

    serve_one : Serves site c heard (acts ++ act ∷ []) (pushed e (Out act)) over early next ls (given held act)
    serve_one = record {
      items = items_push e heard acts act k.items;
      fresh = fresh_given (Dealt heard acts) site c e early may ls held act due k.runs next k.fresh;
      runs = last_given (Dealt heard acts) site c e early may ls held act due k.runs (Dealt heard (acts ++ act ∷ [])) two act_stays;
      counted = counted_then;
      ended = over_push site c heard acts act e.before over leaves_over k.ended;
    }

    not_over : has_ended site c e ≡ false
    not_over = ap (ends_by site c e) (unsettled_is (Dealt heard acts) site c e early ls (Some held) k.runs ∙ ap not (unsettled (Dealt heard acts) site c e early may ls held act due k.runs))

  -- one after another
  serve_all : (more acts : List Act) (e : Exchange) (held : View) → Path may held more → Serves site c heard acts e over early next ls held
      → Serves site c heard (acts ++ more) (with_acts e more) over early next ls (after held more)
  serve_all [] acts e held path k =
      subst (λ l. Serves site c heard l (with_acts e []) over early next ls held) (sym (append-nil acts))
      (subst (λ l. Serves site c heard acts (record e { items = l }) over early next ls held) (sym (append-nil e.items)) k)
  serve_all (a ∷ more) acts e held path k =
      let one = serve_one acts e held a path.0 k in
      let rest = serve_all more (acts ++ a ∷ []) (pushed e (Out a)) (given held a) path.1 one in
      subst (λ l. Serves site c heard l (with_acts e (a ∷ more)) over early next ls (after (given held a) more)) (append_assoc acts (a ∷ []) more)
      (subst (λ l. Serves site c heard ((acts ++ a ∷ []) ++ more) (record e { items = l }) over early next ls (after (given held a) more)) (append_assoc e.items (Out a ∷ []) (map Out more)) rest)

  flows : (more acts : List Act) (e : Exchange) (held : View) → has_ended site c e ≡ false → Path may held more → Serves site c heard acts e over early next ls held → Flows site c e more
  flows [] acts e held on path k =
      let same : with_acts e [] ≡ e = ap (λ l. record e { items = l }) (append-nil e.items) in
      let not_yet : has_ended site c (with_acts e []) ≡ false = ap (has_ended site c) same ∙ on in
      record {
        on = sym (ap (next_by site c (with_acts e [])) not_yet ∙ same);
        over = sym (ap (ended_by (with_acts e [])) not_yet);
      }
  flows (a ∷ []) acts e held on path k = record { on = refl; over = append-nil (ended_by (pushed e (Out a)) (has_ended site c (pushed e (Out a)))) }
  flows (a ∷ b ∷ more) acts e held on path k =
      let one = serve_one acts e held a path.0 k in
      let goes : has_ended site c (pushed e (Out a)) ≡ false = not_over (acts ++ a ∷ []) (pushed e (Out a)) (given held a) b path.1.0 one in
      let rest = flows (b ∷ more) (acts ++ a ∷ []) (pushed e (Out a)) (given held a) goes path.1 one in
      let items : with_acts (pushed e (Out a)) (b ∷ more) ≡ with_acts e (a ∷ b ∷ more) = ap (λ l. record e { items = l }) (append_assoc e.items (Out a ∷ []) (map Out (b ∷ more))) in
      record {
        on = ap (λ t. current_after site c (next_by site c (pushed e (Out a)) t) (map Out (b ∷ more))) goes ∙ (rest.on ∙ ap (λ d. next_by site c d (has_ended site c d)) items);
        over = ap (λ t. ended_by (pushed e (Out a)) t ++ ended_after site c (next_by site c (pushed e (Out a)) t) (map Out (b ∷ more))) goes
            ∙ (rest.over ∙ ap (λ d. ended_by d (has_ended site c d)) items);
      }

  pub deals_served : (acts : List Act) (e : Exchange) (held : View) → DealsWith site c heard acts e over early waiting next ls (Some held)
      → DealsWith site c heard (acts ++ acting may held) (with_acts e (acting may held)) over early (served may) next ls (Some (acted may held))
  deals_served acts e held k =
      let due : AreDue may held = acting-due may held in
      let start : Serves site c heard acts e over early next ls held = record { items = k.items; fresh = k.fresh; runs = k.runs; counted = k.last.0; ended = k.ended } in
      let all : Serves site c heard (acts ++ acting may held) (with_acts e (acting may held)) over early next ls (acted may held) =
      subst (Serves site c heard (acts ++ acting may held) (with_acts e (acting may held)) over early next ls) due.after_is (serve_all (acting may held) acts e held due.path start) in
      record { items = all.items; fresh = all.fresh; runs = all.runs; last = (all.counted, turn_served heard may held k.last.1); ended = all.ended }

  pub acting_flows : (acts : List Act) (e : Exchange) (held : View) → has_ended site c e ≡ false → DealsWith site c heard acts e over early waiting next ls (Some held) → Flows site c e (acting may held)
  acting_flows acts e held on k =
      flows (acting may held) acts e held on (acting-due may held).path (record { items = k.items; fresh = k.fresh; runs = k.runs; counted = k.last.0; ended = k.ended })
