-- Acts, and what they make of the legs.
use Rattle.std.proofs.Common.{◌≡◌, ◌≤◌, ℕ, Bool, true, false, List, [], ◌∷◌, ◌++◌, Option, Some, None, refl, sym, ap, subst, ◌∙◌, append-nil}
use Rattle.std.specs.Prelude.{not, ◌&&◌, ◌||◌, ◌==◌, is_some}
use Rattle.std.specs.List.{list_any, AllByRecursion}
use Rattle.std.proofs.lemmas.Bool.{false≢true, or_parts, or_right, eq-eqb}
use Rattle.host_base.specs.declared.site.Site.{Site}
use Rattle.host_trace.specs.declared.items.Act.{Act}
use Rattle.host_trace.specs.declared.items.Act.TheVariants.{Shut, Start, Feed, EndInput, WantChild, Kill, Release}
use Rattle.host_trace.specs.declared.items.Item.{Item}
use Rattle.host_trace.specs.declared.items.Item.TheVariants.{Out}
use Rattle.host_trace.specs.declared.items.Why.TheVariants.{NoMemory}
use Rattle.host_trace.specs.Kinds.{names_child, child_started, is_no_memory}
use Rattle.host_trace.specs.Projections.{children, shut_for_memory}
use Rattle.host_trace.proofs.ProjectionLaws.{children-push, shut_for_memory-push}
use Rattle.own_traces.specs.Whose.{has}
use Rattle.child_core.specs.declared.ending.Ending.TheVariants.{Dropped}
use Rattle.child_core.specs.View.{View, plain, noted}
use Rattle.child_core.specs.Calls.{ended, is_settled}
use Rattle.child_core.specs.Knows.{Admits}
use Rattle.child_core.specs.Tells.{concerns}
use Rattle.child_core.proofs.CallLaws.{memory-is}
use Rattle.child_core.proofs.MemoryLaws.{knows-early, knows-shut}
use Rattle.child_core.proofs.TellLaws.{noted-other, other-admits, still-offers}
use Rattle.child_core.proofs.WordLaws.{none}
use Rattle.trace_model.specs.Exchange.{Exchange, pushed, all_of}
use Rattle.trace_model.specs.Legs.{Leg}
use Rattle.conn_laws.specs.Quiet.{is_plain}
use Rattle.child_laws.specs.Setting.{setting}
use Rattle.child_laws.specs.Legs.{children_of_legs}
use Rattle.child_laws.specs.Children.{KnowsLeg, SettledLeg, HeldAs, KnowsRuns, KnowsChildren, NoMore, dropped}
use Rattle.conn_laws.specs.Form.{is_to_connection}
use Rattle.child_laws.proofs.SettingLaws.{still}
use Rattle.child_laws.proofs.SpentLaws.{dropped_twice}
use Rattle.child_laws.proofs.ItemLaws.{all_map, unnamed_push, leg_noted, settled_leg, last_push}

-- ---- a leg that an act doesn't name

pub other_act : (site : Site) (c : ℕ) (e : Exchange) (early : Bool) (leg : Leg) (v : View) (act : Act) → names_child v.number (Out act) ≡ false → KnowsLeg site c e early leg v
    → Admits early (setting site c e leg.hop) v e.items plain (Out act)
other_act site c e early leg v act other k =
    other-admits early (setting site c e leg.hop) v e.items plain (Out act) other (still-offers early (setting site c e leg.hop) v e.items act (still site c e leg.hop) k.knows)

pub leg_act : (site : Site) (c : ℕ) (e : Exchange) (early : Bool) (leg : Leg) (v : View) (act : Act) → names_child v.number (Out act) ≡ false → KnowsLeg site c e early leg v
    → KnowsLeg site c (pushed e (Out act)) early leg (noted c v plain (Out act))
leg_act site c e early leg v act other k = leg_noted site c e early leg v plain (Out act) (other_act site c e early leg v act other k) k

-- what more is known of a settled leg is known after an act
abbrev pub Stays : (View → Type 0) → (View → Type 0) → ℕ → Act → Type 0
Stays More Then c act = (v : View) → names_child v.number (Out act) ≡ false → is_settled v ≡ true → More v → Then (noted c v plain (Out act))

pub older_act : (More Then : View → Type 0) (site : Site) (c : ℕ) (e : Exchange) (act : Act) → Stays More Then c act → (leg : Leg) (s : SettledLeg More site c e leg)
    → names_child s.view.number (Out act) ≡ false → SettledLeg Then site c (pushed e (Out act)) leg
older_act More Then site c e act stays leg s other =
    settled_leg More Then site c e leg plain (Out act) s (other_act site c e false leg s.view act other s.known) (stays s.view other s.settled s.more)

-- none of these is child k
pub apart_all : (P Q : Leg → Type 0) (k : ℕ) (older : List Leg) → has (children_of_legs older) k ≡ false → ((leg : Leg) → (leg.child == k) ≡ false → P leg → Q leg)
    → AllByRecursion P older → AllByRecursion Q older
apart_all P Q k [] none f a = tt
apart_all P Q k (leg ∷ older) none f a =
    let p = or_parts (leg.child == k) (has (children_of_legs older) k) none in
    (f leg p.0 a.0, apart_all P Q k older p.1 f a.1)

-- ---- acts that spare the children

pub spared : (act : Act) → is_to_connection act ≡ true → (k : ℕ) → names_child k (Out act) ≡ false
spared (Start k c j hop launch) s j' = absurd (false≢true s)
spared (Feed k bytes) s j = absurd (false≢true s)
spared (EndInput k) s j = absurd (false≢true s)
spared (WantChild k) s j = absurd (false≢true s)
spared (Kill k) s j = absurd (false≢true s)
spared (Release k) s j = absurd (false≢true s)
spared act s j = refl

pub starts_none : (c : ℕ) (act : Act) → is_to_connection act ≡ true → child_started c (Out act) ≡ []
starts_none c (Start k d j hop launch) s = absurd (false≢true s)
starts_none c act s = refl

pub unconcerned : (c k : ℕ) (act : Act) → is_to_connection act ≡ true → is_plain act ≡ true → concerns c k (Out act) ≡ false
unconcerned c k (Shut d why) s p = go (c == d) (is_no_memory why) p
  where
    go : (mine memory : Bool) → not memory ≡ true → (false || (mine && memory || false)) ≡ false
    go mine true e = absurd (false≢true e)
    go true false e = refl
    go false false e = refl
unconcerned c k (Start j d i hop launch) s p = absurd (false≢true s)
unconcerned c k (Feed j bytes) s p = absurd (false≢true s)
unconcerned c k (EndInput j) s p = absurd (false≢true s)
unconcerned c k (WantChild j) s p = absurd (false≢true s)
unconcerned c k (Kill j) s p = absurd (false≢true s)
unconcerned c k (Release j) s p = absurd (false≢true s)
unconcerned c k act s p = refl

pub fresh_act : (e : Exchange) (act : Act) (next : ℕ) → ((k : ℕ) → next ≤ k → names_child k (Out act) ≡ false) → ((k : ℕ) → next ≤ k → list_any (names_child k) (all_of e) ≡ false)
    → (k : ℕ) → next ≤ k → list_any (names_child k) (all_of (pushed e (Out act))) ≡ false
fresh_act e act next other fresh k le = unnamed_push k e (Out act) (other k le) (fresh k le)

module _ (More Then : View → Type 0) (site : Site) (c : ℕ) (e : Exchange) (two : 2 ≤ site.limits.head) where
  no_runs : (ls : List Leg) (act : Act) (early later : Bool) → child_started c (Out act) ≡ [] → KnowsRuns More site c e early ls None → KnowsRuns Then site c (pushed e (Out act)) later ls None
  no_runs ls act early later none k = (k.0, children-push e.items (Out act) c ∙ (ap (λ l. children e.items c ++ l) none ∙ (append-nil _ ∙ k.1)))

  pub runs_spared : (early : Bool) (ls : List Leg) (run : Option View) (act : Act) → is_to_connection act ≡ true → is_plain act ≡ true → Stays More Then c act
      → KnowsRuns More site c e early ls run → KnowsRuns Then site c (pushed e (Out act)) early ls run
  runs_spared early ls None act s p stays k = no_runs ls act early early (starts_none c act s) k
  runs_spared early ls (Some held) act s p stays k =
      let known = leg_act site c e (early && not (is_some k.view.outcome)) k.leg k.view act (spared act s k.view.number) k.known in
      last_push More site c e early ls held k Then (Out act) early k.view held two (starts_none c act s) refl k.held_as
      (subst (KnowsLeg site c (pushed e (Out act)) (early && not (is_some k.view.outcome)) k.leg) (noted-other c k.view (Out act) (unconcerned c k.view.number act s p)) known)
      (all_map (SettledLeg More site c e) (SettledLeg Then site c (pushed e (Out act))) k.older (λ leg o. older_act More Then site c e act stays leg o (spared act s o.view.number)) k.settled)

  -- ---- the Shut for want of memory

  pub runs_shut : (ls : List Leg) (run : Option View) → Stays More Then c (Shut c NoMemory) → KnowsRuns More site c e true ls run
      → KnowsRuns Then site c (pushed e (Out (Shut c NoMemory))) false ls run
  runs_shut ls None stays k = no_runs ls (Shut c NoMemory) true false refl k
  runs_shut ls (Some held) stays k =
      let x : Item = Out (Shut c NoMemory) in
      let v : View = noted c k.view plain x in
      let known = leg_act site c e (not (is_some k.view.outcome)) k.leg k.view (Shut c NoMemory) refl k.known in
      let stands : shut_for_memory (e.items ++ x ∷ []) c ≡ true = shut_for_memory-push e.items x c ∙ or_right (shut_for_memory e.items c) _ (rw (eq-eqb c c refl) refl) in
      last_push More site c e true ls held k Then x false v held two refl refl (k.held_as ∙ sym (memory-is c k.view))
      (record {
        is = known.is;
        plain = known.plain;
        knows = knows-shut (not (is_some k.view.outcome)) (setting site c e k.leg.hop) v (e.items ++ x ∷ []) stands known.knows;
        spent = known.spent;
        unnamed = known.unnamed;
      })
      (all_map (SettledLeg More site c e) (SettledLeg Then site c (pushed e x)) k.older (λ leg o. older_act More Then site c e (Shut c NoMemory) stays leg o refl) k.settled)

-- ---- memory ran out

known_early : (site : Site) (c : ℕ) (e : Exchange) (early : Bool) (leg : Leg) (v : View) → KnowsLeg site c e false leg v → KnowsLeg site c e early leg v
known_early site c e early leg v k = record {
  is = k.is;
  plain = k.plain;
  knows = knows-early early (setting site c e leg.hop) v e.items k.knows;
  spent = k.spent;
  unnamed = k.unnamed;
}

pub runs_lost : (More : View → Type 0) (site : Site) (c : ℕ) (e : Exchange) (early : Bool) (ls : List Leg) (run : Option View) → KnowsRuns More site c e early ls run
    → KnowsRuns More site c e true ls (dropped run)
runs_lost More site c e early ls None k = k
runs_lost More site c e early ls (Some held) k = record {
  older = k.older;
  leg = k.leg;
  are = k.are;
  started = k.started;
  hops = k.hops;
  view = k.view;
  held_as = by_early early k.held_as;
  known = still_known early k.known;
  apart = k.apart;
  settled = k.settled;
  led = k.led;
}
  where
    by_early : (early : Bool) → HeldAs early held k.view → ended held Dropped ≡ ended k.view Dropped
    by_early false is = ap (λ v. ended v Dropped) is
    by_early true is = ap (λ v. ended v Dropped) is ∙ dropped_twice k.view

    still_known : (early : Bool) → KnowsLeg site c e (early && not (is_some k.view.outcome)) k.leg k.view → KnowsLeg site c e (not (is_some k.view.outcome)) k.leg k.view
    still_known false known = known_early site c e (not (is_some k.view.outcome)) k.leg k.view known
    still_known true known = known

-- ---- the laws

pub others_known : (site : Site) (c : ℕ) (e : Exchange) (early : Bool) (next : ℕ) (ls : List Leg) (run : Option View) (act : Act) → 2 ≤ site.limits.head
    → is_to_connection act ≡ true → is_plain act ≡ true → KnowsChildren site c e early next ls run → KnowsChildren site c (pushed e (Out act)) early next ls run
others_known site c e early next ls run act two s p k = record {
  fresh = fresh_act e act next (λ j le. spared act s j) k.fresh;
  runs = runs_spared NoMore NoMore site c e two early ls run act s p (λ v other settled more. tt) k.runs;
}

pub losses_known : (site : Site) (c : ℕ) (e : Exchange) (early : Bool) (next : ℕ) (ls : List Leg) (run : Option View)
    → KnowsChildren site c e early next ls run → KnowsChildren site c e true next ls (dropped run)
losses_known site c e early next ls run k = record { fresh = k.fresh; runs = runs_lost NoMore site c e early ls run k.runs }

pub shuts_known : (site : Site) (c : ℕ) (e : Exchange) (next : ℕ) (ls : List Leg) (run : Option View) → 2 ≤ site.limits.head
    → KnowsChildren site c e true next ls run → KnowsChildren site c (pushed e (Out (Shut c NoMemory))) false next ls run
shuts_known site c e next ls run two k = record {
  fresh = fresh_act e (Shut c NoMemory) next (λ j le. refl) k.fresh;
  runs = runs_shut NoMore NoMore site c e two ls run (λ v other settled more. tt) k.runs;
}
