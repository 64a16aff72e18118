-- An act of the run, and what it makes of the legs.
use Rattle.std.proofs.Common.{◌≡◌, ◌≤◌, ℕ, Bool, true, false, List, ◌++◌, refl, sym, ap, subst, ◌∙◌, inl, inr}
use Rattle.std.specs.Prelude.{not, ◌&&◌, ◌==◌, is_some}
use Rattle.std.specs.List.{list_any}
use Rattle.std.proofs.lemmas.Bool.{cases_Bool, false≢true, eqb-true, or_right}
use Rattle.std.proofs.lemmas.List.Folds.{list_any-append}
use Rattle.host_base.specs.declared.site.Site.{Site}
use Rattle.host_trace.specs.declared.items.Act.{Act}
use Rattle.host_trace.specs.declared.items.Item.{Item}
use Rattle.host_trace.specs.declared.items.Item.TheVariants.{Out}
use Rattle.host_trace.specs.Kinds.{names_child, is_start, is_end_input}
use Rattle.child_core.specs.declared.ending.Ending.TheVariants.{Dropped}
use Rattle.child_core.specs.View.{View, Note, plain, noted}
use Rattle.child_core.specs.Calls.{ended, is_settled}
use Rattle.child_core.specs.Due.{Due, given, wants_input_end}
use Rattle.child_core.specs.Setting.{Setting}
use Rattle.child_core.specs.Knows.{KnowsRun, Admits}
use Rattle.child_core.specs.Walk.{MayAct}
use Rattle.child_core.proofs.MemoryLaws.{due-may, ended-may, ended-agrees, knows-early}
use Rattle.child_core.proofs.WordLaws.{none, start_names}
use Rattle.trace_model.specs.Exchange.{Exchange, pushed, all_of}
use Rattle.trace_model.specs.Legs.{Leg}
use Rattle.child_laws.specs.Setting.{setting}
use Rattle.child_laws.specs.Children.{KnowsLeg, SettledLeg, HeldAs, KnowsLast}
use Rattle.child_laws.proofs.SettingLaws.{still}
use Rattle.child_laws.proofs.DueLaws.{unrefused, due_unsettled, due_names, due_starts, due_conn, due_outcome, due_ends}
use Rattle.child_laws.proofs.ItemLaws.{unnamed_push, leg_noted, last_push}
use Rattle.child_laws.proofs.ActLaws.{Stays, older_act, apart_all}

-- what is owed to a run that is decided is not owed for want of memory
on_time : (s : Setting) (v : View) (L : List Item) (n : Note) (x : Item) → (is_end_input v.number x ≡ true → wants_input_end v ≡ true) → Admits true s v L n x → Admits false s v L n x
on_time s v L n x deserved a = record {
  start = a.start;
  begins = a.begins;
  exits = a.exits;
  asks = a.asks;
  answers = a.answers;
  eof = a.eof;
  takes = a.takes;
  feeds = a.feeds;
  front = a.front;
  in_turn = a.in_turn;
  deserved = λ e ends. deserved ends;
  refused = a.refused;
  body = a.body;
  whole = a.whole;
  done = a.done;
  talk = a.talk;
}

-- the child of a run is named where its Start stands
pub is_named : (early : Bool) (s : Setting) (v : View) (L : List Item) → KnowsRun early s v L → list_any (names_child v.number) L ≡ true
is_named early s v L k = elim (cases_Bool (list_any (names_child v.number) L)) [
  | inl named ↦ named
  | inr unnamed ↦ absurd (false≢true (sym (none (is_start v.number) v.number L (start_names v.number) unnamed) ∙ k.begun))
]

-- .. so another number is none of its
pub is_another : (early : Bool) (s : Setting) (v : View) (before L : List Item) (k : ℕ) → KnowsRun early s v L → list_any (names_child k) (before ++ L) ≡ false → (k == v.number) ≡ false
is_another early s v before L k knows unnamed = elim (cases_Bool (k == v.number)) [
  | inl same ↦
      let named : list_any (names_child k) L ≡ true = subst (λ j. list_any (names_child j) L ≡ true) (sym (eqb-true k v.number same)) (is_named early s v L knows) in
      absurd (false≢true (sym unnamed ∙ (list_any-append (names_child k) before L ∙ or_right (list_any (names_child k) before) _ named)))
  | inr other ↦ other
]

module _ (More : View → Type 0) (site : Site) (c : ℕ) (e : Exchange) (early may : Bool) (ls : List Leg) (held : View) (act : Act) (due : Due may held act) where
  -- the run that the list knows may be given the act
  module _ (k : KnowsLast More site c e early ls held) where
    abbrev s : Setting
    s = setting site c e k.leg.hop

    by_end : (early : Bool) → HeldAs early held k.view → KnowsLeg site c e (early && not (is_some k.view.outcome)) k.leg k.view
        → MayAct (early && not (is_some k.view.outcome)) s k.view e.items act
    by_end false is known = due-may false s (still site c e k.leg.hop) may k.view e.items act known.knows (subst (λ v. Due may v act) is due)
    by_end true is known = go (is_some k.view.outcome) refl known
      where
        dropped_due : Due may (ended k.view Dropped) act
        dropped_due = subst (λ v. Due may v act) is due

        act_of : KnowsRun true s k.view e.items → MayAct true s k.view e.items act
        act_of knows = ended-may s (still site c e k.leg.hop) may k.view e.items act knows dropped_due

        go : (d : Bool) → is_some k.view.outcome ≡ d → KnowsLeg site c e (not d) k.leg k.view → MayAct (not d) s k.view e.items act
        go false decided known = act_of known.knows
        go true decided known =
            let m : MayAct true s k.view e.items act = act_of (knows-early true s k.view e.items known.knows) in
            record {
              admits = on_time s k.view e.items plain (Out act) (λ ends. wants decided (due_ends may (ended k.view Dropped) act k.view.number dropped_due ends)) m.admits;
              input = m.input;
              kill = m.kill;
              release = m.release;
            }
          where
            wants : is_some k.view.outcome ≡ true → k.view.started ≡ true → wants_input_end k.view ≡ true
            wants d on = rw (on, d) refl

    pub may_act : MayAct (early && not (is_some k.view.outcome)) s k.view e.items act
    may_act = by_end early k.held_as k.known

    pub same_number : held.number ≡ k.view.number
    same_number = go early k.held_as
      where
        go : (early : Bool) → HeldAs early held k.view → held.number ≡ k.view.number
        go false is = ap (λ (v : View). v.number) is
        go true is = ap (λ (v : View). v.number) is

    pub held_given : (early : Bool) → HeldAs early held k.view → HeldAs early (given held act) (noted c k.view plain (Out act))
    held_given false is = due_conn may c held held act due ∙ ap (λ v. noted c v plain (Out act)) is
    held_given true is = due_conn may c held held act due ∙ (ap (λ v. noted c v plain (Out act)) is ∙ ended-agrees c k.view act)

    pub last_given : (Then : View → Type 0) → 2 ≤ site.limits.head → Stays More Then c act → KnowsLast Then site c (pushed e (Out act)) early ls (given held act)
    last_given Then two stays =
        last_push More site c e early ls held k Then (Out act) early (noted c k.view plain (Out act)) (given held act) two (due_starts c may held act due) refl (held_given early k.held_as)
        (subst (λ o. KnowsLeg site c (pushed e (Out act)) (early && not (is_some o)) k.leg (noted c k.view plain (Out act))) (sym (due_outcome may c held k.view act due))
        (leg_noted site c e (early && not (is_some k.view.outcome)) k.leg k.view plain (Out act) may_act.admits k.known))
        (apart_all (SettledLeg More site c e) (SettledLeg Then site c (pushed e (Out act))) k.view.number k.older k.apart
        (λ leg other o. older_act More Then site c e act stays leg o
        (due_names may held act due o.view.number (ap (λ n. o.view.number == n) same_number ∙ (ap (λ n. n == k.view.number) o.known.is.number ∙ other))))
        k.settled)

    pub unsettled : is_settled held ≡ false
    unsettled = due_unsettled may held act (apart early k.held_as) due
      where
        apart : (early : Bool) → HeldAs early held k.view → held.started ≡ true → held.refused ≡ false
        apart false is on =
            ap (λ (v : View). v.refused) is ∙ unrefused _ s k.view e.items k.known.knows (sym (ap (λ (v : View). v.started) is) ∙ on)
        apart true is on =
            ap (λ (v : View). v.refused) is ∙ unrefused _ s k.view e.items k.known.knows (sym (ap (λ (v : View). v.started) is) ∙ on)

    pub fresh_given : (next : ℕ) → ((j : ℕ) → next ≤ j → list_any (names_child j) (all_of e) ≡ false) → (j : ℕ) → next ≤ j → list_any (names_child j) (all_of (pushed e (Out act))) ≡ false
    fresh_given next fresh j le =
        unnamed_push j e (Out act)
        (due_names may held act due j (ap (λ n. j == n) same_number ∙ is_another _ s k.view e.before e.items j k.known.knows (fresh j le))) (fresh j le)
