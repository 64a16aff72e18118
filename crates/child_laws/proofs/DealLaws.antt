-- What is known within a step, act after act.
use Rattle.std.proofs.Common.{◌≡◌, ◌≤◌, ℕ, Bool, true, false, List, [], ◌∷◌, ◌++◌, map, Option, Some, None, refl, sym, ap, subst, ◌∙◌, append-nil, append_assoc}
use Rattle.std.proofs.lemmas.List.{map-append}
use Rattle.std.specs.List.{list_any, AllByRecursion}
use Rattle.std.proofs.lemmas.Bool.{or_left}
use Rattle.std.proofs.lemmas.List.Folds.{list_any-append}
use Rattle.host_base.specs.declared.site.Site.{Site}
use Rattle.host_trace.specs.declared.items.Act.{Act}
use Rattle.host_trace.specs.declared.items.Act.TheVariants.{Shut}
use Rattle.host_trace.specs.declared.items.Item.{Item}
use Rattle.host_trace.specs.declared.items.Item.TheVariants.{Out}
use Rattle.host_trace.specs.declared.items.Why.TheVariants.{NoMemory}
use Rattle.host_trace.specs.Kinds.{names_child}
use Rattle.child_core.specs.Calls.{ended}
use Rattle.child_core.specs.View.{View}
use Rattle.child_core.proofs.CallLaws.{memory-is}
use Rattle.child_core.proofs.TellLaws.{noted-other}
use Rattle.trace_model.specs.Answer.{legs}
use Rattle.trace_model.specs.Exchange.{Exchange, pushed, all_of}
use Rattle.trace_model.specs.Exchanges.{following, has_ended}
use Rattle.trace_model.specs.Legs.{Leg, run_of}
use Rattle.conn_laws.specs.Quiet.{is_plain}
use Rattle.child_laws.specs.Setting.{setting}
use Rattle.child_laws.specs.Children.{HeldAs, KnowsLast, KnowsRuns, dropped}
use Rattle.conn_laws.specs.Form.{is_to_connection}
use Rattle.child_laws.specs.Step.{Dealt, Turn, LastIs, LegOver, LegsOver, DealsWith}
use Rattle.child_laws.specs.Moves.{may_lose}
use Rattle.child_laws.proofs.ItemLaws.{all_map, all_and}
use Rattle.child_laws.proofs.ActLaws.{Stays, spared, unconcerned, fresh_act, runs_spared, runs_shut, runs_lost}
use Rattle.child_laws.proofs.DueLaws.{unrefused}
use Rattle.child_laws.proofs.DealtLaws.{Apart, counted_push, counted_ended, dropped_fair, turn_dropped}
use Rattle.child_laws.proofs.GoodLaws.{good_stays}
use Rattle.child_laws.proofs.OverLaws.{legs_over}

-- ---- the parts

pub items_push : (e : Exchange) (heard : List Item) (acts : List Act) (a : Act) → all_of e ≡ heard ++ map Out acts → all_of (pushed e (Out a)) ≡ heard ++ map Out (acts ++ a ∷ [])
items_push e heard acts a is =
    sym (append_assoc e.before e.items (Out a ∷ []))
    ∙ (ap (λ l. l ++ Out a ∷ []) is
    ∙ (append_assoc heard (map Out acts) (Out a ∷ []) ∙ ap (λ l. heard ++ l) (sym (map-append Out acts (a ∷ [])))))

-- the act names none of the children that are over
abbrev pub Leaves : List Item → Act → Type 0
Leaves before a = (k : ℕ) → list_any (names_child k) before ≡ true → names_child k (Out a) ≡ false

pub over_push : (site : Site) (c : ℕ) (heard : List Item) (acts : List Act) (a : Act) (before : List Item) (es : List Exchange) → Leaves before a → AllByRecursion (LegsOver site c heard acts before) es
    → AllByRecursion (LegsOver site c heard (acts ++ a ∷ []) before) es
over_push site c heard acts a before es leaves over =
    all_map (LegsOver site c heard acts before) (LegsOver site c heard (acts ++ a ∷ []) before) es
    (λ e. all_map (LegOver site c heard acts before e) (LegOver site c heard (acts ++ a ∷ []) before e) (legs site c e) (λ leg o. record {
      named = o.named;
      good = λ room. good_stays (run_of site c e leg) room heard acts a e.items (leaves leg.child o.named) (o.good room);
    })) over

-- an act that names another child, or none, leaves what was done to a child
pub dealt_other : (heard : List Item) (acts : List Act) (a : Act) (v : View) → names_child v.number (Out a) ≡ false → Dealt heard acts v → Dealt heard (acts ++ a ∷ []) v
dealt_other heard acts a v other d = record { counted = counted_push heard acts a v other d.counted; deserved = d.deserved; apart = d.apart }

pub last_other : (heard : List Item) (acts : List Act) (a : Act) (turn : Turn) (run : Option View) → ((v : View) → run ≡ Some v → names_child v.number (Out a) ≡ false) → LastIs heard acts turn run
    → LastIs heard (acts ++ a ∷ []) turn run
last_other heard acts a turn None other l = l
last_other heard acts a turn (Some v) other l = (counted_push heard acts a v (other v refl) l.0, l.1)

-- ---- acts that spare the children

spared_stays : (heard : List Item) (acts : List Act) (c : ℕ) (a : Act) → is_to_connection a ≡ true → is_plain a ≡ true → Stays (Dealt heard acts) (Dealt heard (acts ++ a ∷ [])) c a
spared_stays heard acts c a s p v other settled d =
    subst (Dealt heard (acts ++ a ∷ [])) (sym (noted-other c v (Out a) (unconcerned c v.number a s p))) (dealt_other heard acts a v other d)

shut_stays : (heard : List Item) (acts : List Act) (c : ℕ) → Stays (Dealt heard acts) (Dealt heard (acts ++ Shut c NoMemory ∷ [])) c (Shut c NoMemory)
shut_stays heard acts c v other settled d =
    subst (Dealt heard (acts ++ Shut c NoMemory ∷ [])) (sym (memory-is c v)) (record {
      counted = counted_ended heard (acts ++ Shut c NoMemory ∷ []) v (counted_push heard acts (Shut c NoMemory) v other d.counted);
      deserved = dropped_fair heard true v d.apart settled (d.deserved true);
      apart = d.apart;
    })

module _ (site : Site) (c : ℕ) (heard : List Item) (acts : List Act) (e : Exchange) (over : List Exchange) where
  pub deals_spared : (early : Bool) (turn : Turn) (next : ℕ) (ls : List Leg) (run : Option View) (a : Act) → 2 ≤ site.limits.head → is_to_connection a ≡ true → is_plain a ≡ true
      → DealsWith site c heard acts e over early turn next ls run → DealsWith site c heard (acts ++ a ∷ []) (pushed e (Out a)) over early turn next ls run
  deals_spared early turn next ls run a two s p k = record {
    items = items_push e heard acts a k.items;
    fresh = fresh_act e a next (λ j le. spared a s j) k.fresh;
    runs = runs_spared (Dealt heard acts) (Dealt heard (acts ++ a ∷ [])) site c e two early ls run a s p (spared_stays heard acts c a s p) k.runs;
    last = last_other heard acts a turn run (λ v is. spared a s v.number) k.last;
    ended = over_push site c heard acts a e.before over (λ j named. spared a s j) k.ended;
  }

  pub deals_shut : (turn : Turn) (next : ℕ) (ls : List Leg) (run : Option View) → 2 ≤ site.limits.head
      → DealsWith site c heard acts e over true turn next ls run → DealsWith site c heard (acts ++ Shut c NoMemory ∷ []) (pushed e (Out (Shut c NoMemory))) over false turn next ls run
  deals_shut turn next ls run two k = record {
    items = items_push e heard acts (Shut c NoMemory) k.items;
    fresh = fresh_act e (Shut c NoMemory) next (λ j le. refl) k.fresh;
    runs = runs_shut (Dealt heard acts) (Dealt heard (acts ++ Shut c NoMemory ∷ [])) site c e two ls run (shut_stays heard acts c) k.runs;
    last = last_other heard acts (Shut c NoMemory) turn run (λ v is. refl) k.last;
    ended = over_push site c heard acts (Shut c NoMemory) e.before over (λ j named. refl) k.ended;
  }

  -- ---- memory ran out

  pub held_apart : (More : View → Type 0) (early : Bool) (ls : List Leg) (held : View) → KnowsLast More site c e early ls held → Apart held
  held_apart More early ls held k on = go early k.held_as
    where
      go : (early : Bool) → HeldAs early held k.view → held.refused ≡ false
      go false is = ap (λ (v : View). v.refused) is ∙ unrefused _ (setting site c e k.leg.hop) k.view e.items k.known.knows (sym (ap (λ (v : View). v.started) is) ∙ on)
      go true is = ap (λ (v : View). v.refused) is ∙ unrefused _ (setting site c e k.leg.hop) k.view e.items k.known.knows (sym (ap (λ (v : View). v.started) is) ∙ on)

  lost_last : (early : Bool) (turn : Turn) (ls : List Leg) (run : Option View) → may_lose turn run ≡ true → KnowsRuns (Dealt heard acts) site c e early ls run → LastIs heard acts turn run
      → LastIs heard acts turn (dropped run)
  lost_last early turn ls None may k l = l
  lost_last early turn ls (Some v) may k l = (counted_ended heard acts v l.0, turn_dropped heard turn v (held_apart (Dealt heard acts) early ls v k) may l.1)

  pub deals_lost : (early : Bool) (turn : Turn) (next : ℕ) (ls : List Leg) (run : Option View) → may_lose turn run ≡ true
      → DealsWith site c heard acts e over early turn next ls run → DealsWith site c heard acts e over true turn next ls (dropped run)
  deals_lost early turn next ls run may k = record {
    items = k.items;
    fresh = k.fresh;
    runs = runs_lost (Dealt heard acts) site c e early ls run k.runs;
    last = lost_last early turn ls run may k.runs k.last;
    ended = k.ended;
  }

  -- ---- the end of the exchange

  still_over : (more : List Item) → AllByRecursion (LegsOver site c heard acts e.before) over → AllByRecursion (LegsOver site c heard acts (e.before ++ more)) over
  still_over more ended =
      all_map (LegsOver site c heard acts e.before) (LegsOver site c heard acts (e.before ++ more)) over
      (λ d. all_map (LegOver site c heard acts e.before d) (LegOver site c heard acts (e.before ++ more) d) (legs site c d)
      (λ leg o. record { named = list_any-append (names_child leg.child) e.before more ∙ or_left _ _ o.named; good = o.good })) ended

  pub deals_followed : (early later : Bool) (turn other : Turn) (next : ℕ) (ls : List Leg) (run : Option View) → has_ended site c e ≡ true → DealsWith site c heard acts e over early turn next ls run
      → DealsWith site c heard acts (following site c e) (over ++ e ∷ []) later other next [] None
  deals_followed early later turn other next ls run is k = record {
    items = append-nil (all_of e) ∙ k.items;
    fresh = λ j le. ap (list_any (names_child j)) (append-nil (all_of e)) ∙ k.fresh j le;
    runs = (refl, refl);
    last = tt;
    ended = all_and (LegsOver site c heard acts (e.before ++ e.items)) over (e ∷ []) (still_over e.items k.ended)
        (legs_over site c e heard acts early turn ls run k.runs k.last is, tt);
  }
