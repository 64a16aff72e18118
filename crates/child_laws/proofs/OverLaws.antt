-- An exchange that ends: its last run is decided, and all rules on its children hold.
use Rattle.std.proofs.Common.{◌≡◌, ℕ, zero, suc, Bool, true, false, List, [], ◌∷◌, ◌++◌, Option, Some, None, refl, sym, ap, subst, ◌∙◌}
use Rattle.std.specs.Prelude.{not, ◌&&◌, drop, length, is_some}
use Rattle.std.specs.List.{list_any, AllByRecursion}
use Rattle.std.proofs.lemmas.Bool.{false≢true, or_right}
use Rattle.std.proofs.lemmas.List.Folds.{list_any-append}
use Rattle.host_base.specs.declared.site.Site.{Site}
use Rattle.host_trace.specs.declared.items.Act.{Act}
use Rattle.host_trace.specs.declared.items.Item.{Item}
use Rattle.host_trace.specs.Account.{has_unsettled}
use Rattle.host_trace.specs.Kinds.{names_child}
use Rattle.host_trace.specs.Projections.{client_out}
use Rattle.trace_child.specs.Decided.{decided_at, is_decided}
use Rattle.child_core.specs.declared.ending.Ending.TheVariants.{Dropped}
use Rattle.child_core.specs.Calls.{ended, is_settled}
use Rattle.child_core.specs.View.{View}
use Rattle.trace_model.specs.Answer.{answer, answer_at, undecided, running, stage, legs}
use Rattle.trace_model.specs.Exchange.{Exchange, continue_part, final}
use Rattle.trace_model.specs.Exchanges.{ends_by, has_ended}
use Rattle.trace_model.specs.Legs.{Leg, run_of}
use Rattle.trace_model.specs.Standing.{stands_whole}
use Rattle.conn_laws.proofs.EndLaws.{not_whole}
use Rattle.conn_laws.proofs.HopLaws.{reaches_stands}
use Rattle.child_laws.specs.Setting.{setting}
use Rattle.child_laws.specs.Legs.{SameRun, SameRuns}
use Rattle.child_laws.specs.Children.{HeldAs, KnowsLeg, SettledLeg, KnowsLast, KnowsRuns}
use Rattle.child_laws.specs.Step.{Dealt, Turn, LastIs, LegOver, LegsOver}
use Rattle.child_laws.proofs.SettingLaws.{setting_is}
use Rattle.child_laws.proofs.ItemLaws.{all_and}
use Rattle.child_laws.proofs.RunActLaws.{is_named}
use Rattle.child_laws.proofs.DueLaws.{unrefused}
use Rattle.child_laws.proofs.KnowLaws.{legs_known, unsettled_is}
use Rattle.child_laws.proofs.DealtLaws.{Apart, counted_list, turn_fair, settled_fair, list_fair}
use Rattle.child_laws.proofs.GoodLaws.{good_settled, same_run}

-- ---- whether an exchange has ended

ends_settled : (site : Site) (c : ℕ) (e : Exchange) → has_ended site c e ≡ true → has_unsettled e.items c ≡ false
ends_settled site c e is = go (has_unsettled e.items c) is
  where
    go : (b : Bool) → ends_by site c e b ≡ true → b ≡ false
    go true is = absurd (false≢true is)
    go false is = refl

ends_whole : (site : Site) (c : ℕ) (e : Exchange) → has_ended site c e ≡ true → stands_whole site c e ≡ true
ends_whole site c e is = go (has_unsettled e.items c) is
  where
    go : (b : Bool) → ends_by site c e b ≡ true → stands_whole site c e ≡ true
    go true is = absurd (false≢true is)
    go false is = is

unwhole : (site : Site) (c : ℕ) (e : Exchange) → stands_whole site c e ≡ false → has_ended site c e ≡ false
unwhole site c e part = go (has_unsettled e.items c)
  where
    go : (b : Bool) → ends_by site c e b ≡ false
    go true = refl
    go false = part

-- one without items has not
nothing_left : (n : ℕ) → drop {A = ℕ} n [] ≡ []
nothing_left zero = refl
nothing_left (suc n) = refl

pub new_unended : (site : Site) (c : ℕ) (e : Exchange) → e.items ≡ [] → has_ended site c e ≡ false
new_unended site c e none =
    let unwritten : final site c e ≡ [] = ap (λ items. drop (length (continue_part site c e)) (client_out items c)) none ∙ nothing_left (length (continue_part site c e)) in
    unwhole site c e ((not_whole site c e).unwritten unwritten)

module _ (More : View → Type 0) (site : Site) (c : ℕ) (e : Exchange) (early : Bool) (ls : List Leg) (held : View) (k : KnowsLast More site c e early ls held) (is : has_ended site c e ≡ true) where
  -- where it has ended its last run is decided
  decided_in : is_decided (run_of site c e k.led.last) e.items ≡ true
  decided_in = go (decided_at (run_of site c e k.led.last) e.items) refl
    where
      go : (o : Option (List Item)) → decided_at (run_of site c e k.led.last) e.items ≡ o → is_some o ≡ true
      go (Some front) at = refl
      go None at =
          let runs : stage site c e ≡ running k.led.last = (reaches_stands site c e k.led.walked k.led.left k.led.hop k.led.request k.led.reaches).runs k.led.last k.led.started at in
          let waits : answer site c e ≡ undecided = ap answer_at runs in
          absurd (false≢true (sym (unwhole site c e ((not_whole site c e).waits waits)) ∙ is))

  pub decided_at_end : is_some k.view.outcome ≡ true
  decided_at_end =
      sym k.known.knows.decided
      ∙ (ap (λ run. is_decided run e.items) (setting_is site c e k.leg k.view k.known.is ∙ same_run site c e k.leg k.led.last k.led.same_last) ∙ decided_in)

  settled_held : is_settled held ≡ true
  settled_held = unnot (is_settled held) (sym (unsettled_is More site c e early ls (Some held) k) ∙ ends_settled site c e is)
    where
      unnot : (b : Bool) → not b ≡ false → b ≡ true
      unnot true e = refl
      unnot false e = absurd (false≢true (sym e))

-- what was done to the run that is held was done to the one of the list
list_dealt : (heard : List Item) (acts : List Act) (early : Bool) (turn : Turn) (held v : View) → HeldAs early held v → (early ≡ true → is_some v.outcome ≡ true) → Apart v → is_settled held ≡ true
    → LastIs heard acts turn (Some held) → Dealt heard acts v
list_dealt heard acts false turn held v is decided apart settled last =
    let f = turn_fair heard turn v (subst (λ w. LastIs heard acts turn (Some w)) is last).1 in
    record {
      counted = (subst (λ w. LastIs heard acts turn (Some w)) is last).0;
      deserved = settled_fair heard f.0 v apart (subst (λ w. is_settled w ≡ true) is settled) f.1;
      apart = apart;
    }
list_dealt heard acts true turn held v is decided apart settled last =
    let f = turn_fair heard turn (ended v Dropped) (subst (λ w. LastIs heard acts turn (Some w)) is last).1 in
    record {
      counted = counted_list heard acts v (subst (λ w. LastIs heard acts turn (Some w)) is last).0;
      deserved = list_fair heard f.0 v (decided refl) apart (subst (λ w. is_settled w ≡ true) is settled) f.1;
      apart = apart;
    }

module _ (site : Site) (c : ℕ) (e : Exchange) (heard : List Item) (acts : List Act) where
  -- a leg whose child is settled is over
  over_leg : (leg now : Leg) → SameRun leg now → SettledLeg (Dealt heard acts) site c e leg → LegOver site c heard acts (e.before ++ e.items) e now
  over_leg leg now same s = record {
    named = subst (λ k. list_any (names_child k) (e.before ++ e.items) ≡ true) (s.known.is.number ∙ sym same.child)
        (list_any-append (names_child s.view.number) e.before e.items
        ∙ or_right (list_any (names_child s.view.number) e.before) _ (is_named false (setting site c e leg.hop) s.view e.items s.known.knows));
    good = good_settled site c e leg now heard acts same s;
  }

  over_legs : (ls now : List Leg) → SameRuns ls now → AllByRecursion (SettledLeg (Dealt heard acts) site c e) ls → AllByRecursion (LegOver site c heard acts (e.before ++ e.items) e) now
  over_legs [] [] same a = tt
  over_legs [] (leg ∷ now) same a = absurd same
  over_legs (leg ∷ ls) [] same a = absurd same
  over_legs (leg ∷ ls) (n ∷ now) same a = (over_leg leg n same.0 a.0, over_legs ls now same.1 a.1)

  last_settled : (early : Bool) (turn : Turn) (ls : List Leg) (held : View) (k : KnowsLast (Dealt heard acts) site c e early ls held) → LastIs heard acts turn (Some held) → has_ended site c e ≡ true
      → SettledLeg (Dealt heard acts) site c e k.leg
  last_settled early turn ls held k last is =
      let decided = decided_at_end (Dealt heard acts) site c e early ls held k is in
      let settled = settled_held (Dealt heard acts) site c e early ls held k is in
      let apart : Apart k.view = unrefused (early && not (is_some k.view.outcome)) (setting site c e k.leg.hop) k.view e.items k.known.knows in
      record {
        view = k.view;
        known = subst (λ b. KnowsLeg site c e b k.leg k.view) (ap (λ d. early && not d) decided ∙ and_none early) k.known;
        settled = by_held early k.held_as settled;
        more = list_dealt heard acts early turn held k.view k.held_as (λ _. decided) apart settled last;
      }
    where
      and_none : (b : Bool) → (b && false) ≡ false
      and_none true = refl
      and_none false = refl

      by_held : (early : Bool) → HeldAs early held k.view → is_settled held ≡ true → is_settled k.view ≡ true
      by_held false at s = subst (λ w. is_settled w ≡ true) at s
      by_held true at s = subst (λ w. is_settled w ≡ true) at s

  -- all legs of an exchange that has ended
  pub legs_over : (early : Bool) (turn : Turn) (ls : List Leg) (run : Option View) → KnowsRuns (Dealt heard acts) site c e early ls run → LastIs heard acts turn run → has_ended site c e ≡ true
      → LegsOver site c heard acts (e.before ++ e.items) e
  legs_over early turn ls run k last is = over_legs ls (legs site c e) (legs_known (Dealt heard acts) site c e early ls run k) (all run k last)
    where
      all : (run : Option View) → KnowsRuns (Dealt heard acts) site c e early ls run → LastIs heard acts turn run → AllByRecursion (SettledLeg (Dealt heard acts) site c e) ls
      all None k last = subst (AllByRecursion (SettledLeg (Dealt heard acts) site c e)) (sym k.0) tt
      all (Some held) k last =
          subst (AllByRecursion (SettledLeg (Dealt heard acts) site c e)) (sym k.are)
          (all_and (SettledLeg (Dealt heard acts) site c e) k.older (k.leg ∷ []) k.settled (last_settled early turn ls held k last is, tt))
