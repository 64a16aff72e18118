-- A good trace breaks no rule by the tests.
use Rattle.std.proofs.Common.{◌≡◌, ℕ, zero, suc, Bool, true, List, [], ◌∷◌, ◌++◌, refl, ap, ◌∙◌, arith}
use Rattle.std.specs.Prelude.{◌≤◌}
use Rattle.std.specs.List.{AllByRecursion, flat_map, list_all}
use Rattle.std.proofs.lemmas.Bool.{and_from, lt-ltb}
use Rattle.host_base.specs.declared.site.Site.{Site}
use Rattle.host_trace.specs.declared.items.Item.{Item}
use Rattle.host_trace.specs.Projections.{accepted_count, own}
use Rattle.host_trace.specs.Trace.{Step, end_of, steps}
use Rattle.trace_child.proofs.ChildRules.{is_child_good-true}
use Rattle.trace_model.specs.Answer.{legs}
use Rattle.trace_model.specs.Between.{BetweenGood}
use Rattle.trace_model.specs.Children.{LegGood, LegsGood}
use Rattle.trace_model.specs.Demands.{has_room}
use Rattle.trace_model.specs.Exchange.{Exchange}
use Rattle.trace_model.specs.Good.{Good, GoodFor, StepGood}
use Rattle.trace_model.specs.Legs.{Leg, run_of}
use Rattle.trace_model.specs.Steps.{exchanges_in, goes_on, heard_of}
use Rattle.trace_model.specs.Verdict.{are_legs_good, broken_below, broken_between, broken_by, broken_for, broken_in_step, broken_of, is_leg_good, name_if_broken, rules_at}

-- ---- lists

none_of : {X Y : Type 0} (f : X → List Y) (xs : List X) → AllByRecursion (λ x. f x ≡ []) xs → flat_map f xs ≡ []
none_of f [] all = refl
none_of f (x ∷ xs) all = ap (λ l. l ++ flat_map f xs) all.0 ∙ none_of f xs all.1

all_true : {X : Type 0} (p : X → Bool) (xs : List X) → AllByRecursion (λ x. p x ≡ true) xs → list_all p xs ≡ true
all_true p [] all = refl
all_true p (x ∷ xs) all = and_from _ _ all.0 (all_true p xs all.1)

all_as : {X : Type 0} (P Q : X → Type 0) → ((x : X) → P x → Q x) → (xs : List X) → AllByRecursion P xs → AllByRecursion Q xs
all_as P Q as_q [] all = tt
all_as P Q as_q (x ∷ xs) all = (as_q x all.0, all_as P Q as_q xs all.1)

both_none : {X : Type 0} (xs ys : List X) → xs ≡ [] → ys ≡ [] → xs ++ ys ≡ []
both_none xs ys first second = ap (λ l. l ++ ys) first ∙ second

-- ---- a connection

legs_true : (site : Site) (c : ℕ) (s : Step) (e : Exchange) → LegsGood site c s e → are_legs_good site c s e ≡ true
legs_true site c s e good =
    all_true (is_leg_good site c s e) (legs site c e)
    (all_as (LegGood site c s e) (λ (leg : Leg). is_leg_good site c s e leg ≡ true)
    (λ leg. is_child_good-true (run_of site c e leg) (has_room c (end_of s)) (heard_of s) s.acts e.items) (legs site c e) good)

step_none : (site : Site) (c : ℕ) (s : Step) → StepGood site c s → broken_in_step site c s ≡ []
step_none site c s g =
    none_of broken_of (rules_at site c s (goes_on site c s) (exchanges_in site c s)) (
      ap (name_if_broken _) g.good.replies,
      (
        ap (name_if_broken _) g.good.replies_end,
        (
          ap (name_if_broken _) g.good.launches,
          (
            ap (name_if_broken _) g.good.talk_acts,
            (
              ap (name_if_broken _) g.good.upgrades,
              (
                ap (name_if_broken _) g.good.talks,
                (
                  ap (name_if_broken _) g.good.shuts,
                  (
                    ap (name_if_broken _) g.good.wants,
                    (
                      ap (name_if_broken _) g.good.form,
                      (
                        ap (name_if_broken _) g.good.order,
                        (
                          ap (name_if_broken _) g.ready.begins,
                          (
                            ap (name_if_broken _) g.ready.answers,
                            (
                              ap (name_if_broken _) g.ready.in_turn,
                              (
                                ap (name_if_broken _) g.ready.hops,
                                (
                                  ap (name_if_broken _) g.ready.hears,
                                  (
                                    ap (name_if_broken _) g.ready.continues,
                                    (
                                      ap (name_if_broken _) g.ready.says,
                                      (
                                        ap (name_if_broken _) g.ready.stops,
                                        (
                                          ap (name_if_broken _) g.ready.streams,
                                          (
                                            ap (name_if_broken _) g.ready.no_sooner,
                                            (
                                              ap (name_if_broken _) g.ready.takes_no_memory,
                                              (
                                                ap (name_if_broken _) (all_true (are_legs_good site c s) (exchanges_in site c s)
                                                    (all_as (LegsGood site c s) (λ (e : Exchange). are_legs_good site c s e ≡ true) (legs_true site c s) (exchanges_in site c s) g.children)),
                                                tt,
                                              ),
                                            ),
                                          ),
                                        ),
                                      ),
                                    ),
                                  ),
                                ),
                              ),
                            ),
                          ),
                        ),
                      ),
                    ),
                  ),
                ),
              ),
            ),
          ),
        ),
      ),
    )

for_none : (site : Site) (c : ℕ) (L : List Item) → GoodFor site c L → broken_for site c L ≡ []
for_none site c L good =
    none_of (broken_in_step site c) (steps L) (all_as (StepGood site c) (λ (s : Step). broken_in_step site c s ≡ []) (step_none site c) (steps L) good)

-- ---- the whole trace

between_none : (site : Site) (s : Step) → BetweenGood site s → broken_between site s ≡ []
between_none site s g =
    both_none _ _ (both_none _ _ (ap (name_if_broken _) g.numbers) (ap (name_if_broken _) g.owners)) (ap (name_if_broken _) g.slots)

below_none : (site : Site) (T : List Item) → Good site T → (n : ℕ) → n ≤ accepted_count T → broken_below site T n ≡ []
below_none site T good zero most = refl
below_none site T good (suc n) most =
    both_none _ _ (below_none site T good n (omega (arith, most)))
    (for_none site n (own T n) (good.connections n (lt-ltb n (accepted_count T) (omega (arith, most)))))

pub good_none : (site : Site) (T : List Item) → Good site T → broken_by site T ≡ []
good_none site T good =
    both_none _ _
    (both_none _ _ (ap (name_if_broken _) good.begun)
    (none_of (broken_between site) (steps T) (all_as (BetweenGood site) (λ (s : Step). broken_between site s ≡ []) (between_none site) (steps T) good.between)))
    (below_none site T good (accepted_count T) (omega arith))
