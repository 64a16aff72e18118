-- A trace of which no test of a rule fails is good.
use Rattle.std.proofs.Common.{◌≡◌, ℕ, zero, suc, ◌<◌, Bool, true, false, List, [], ◌∷◌, ◌++◌, refl, subst, arith, inl, inr}
use Rattle.std.specs.List.{AllByRecursion, list_all, flat_map}
use Rattle.std.proofs.lemmas.Bool.{and_parts, cases_lt, ltb-true}
use Rattle.host_base.specs.declared.site.Site.{Site}
use Rattle.host_trace.specs.declared.items.Item.{Item}
use Rattle.host_trace.specs.Projections.{accepted_count, own}
use Rattle.host_trace.specs.Trace.{Step, steps, end_of}
use Rattle.trace_child.proofs.ChildRules.{child_good}
use Rattle.trace_model.specs.Answer.{legs}
use Rattle.trace_model.specs.Between.{BetweenGood, numbers, owners, slots}
use Rattle.trace_model.specs.Children.{LegGood, LegsGood}
use Rattle.trace_model.specs.Demands.{has_room}
use Rattle.trace_model.specs.Exchange.{Exchange}
use Rattle.trace_model.specs.Good.{StepGood, GoodFor, Good, begins_with_event}
use Rattle.trace_model.specs.Legs.{run_of}
use Rattle.trace_model.specs.Steps.{goes_on, exchanges_in, heard_of}
use Rattle.trace_model.specs.Verdict.{Kept, name_if_broken, broken_of, is_leg_good, are_legs_good, rules_at, broken_in_step, broken_for, broken_between, broken_below, broken_by}

-- ---- lists

front_none : {X : Type 0} (xs ys : List X) → xs ++ ys ≡ [] → xs ≡ []
front_none [] ys is = refl
front_none (x ∷ xs) ys is = absurd (cc)

rest_none : {X : Type 0} (xs ys : List X) → xs ++ ys ≡ [] → ys ≡ []
rest_none [] ys is = is
rest_none (x ∷ xs) ys is = absurd (cc)

each_none : {X Y : Type 0} (f : X → List Y) (xs : List X) → flat_map f xs ≡ [] → AllByRecursion (λ x. f x ≡ []) xs
each_none f [] is = tt
each_none f (x ∷ xs) is = (front_none (f x) (flat_map f xs) is, each_none f xs (rest_none (f x) (flat_map f xs) is))

each_true : {X : Type 0} (p : X → Bool) (xs : List X) → list_all p xs ≡ true → AllByRecursion (λ x. p x ≡ true) xs
each_true p [] is = tt
each_true p (x ∷ xs) is = let parts = and_parts (p x) (list_all p xs) is in (parts.0, each_true p xs parts.1)

all_as : {X : Type 0} (P Q : X → Type 0) → ((x : X) → P x → Q x) → (xs : List X) → AllByRecursion P xs → AllByRecursion Q xs
all_as P Q as_q [] all = tt
all_as P Q as_q (x ∷ xs) all = (as_q x all.0, all_as P Q as_q xs all.1)

is_kept : (rule : List ℕ) (b : Bool) → name_if_broken rule b ≡ [] → b ≡ true
is_kept rule true is = refl
is_kept rule false is = absurd (cc)

-- ---- a connection

legs_good : (site : Site) (c : ℕ) (s : Step) (e : Exchange) → are_legs_good site c s e ≡ true → LegsGood site c s e
legs_good site c s e is =
    all_as (λ leg. is_leg_good site c s e leg ≡ true) (LegGood site c s e)
    (λ leg. child_good (run_of site c e leg) (has_room c (end_of s)) (heard_of s) s.acts e.items)
    (legs site c e) (each_true (is_leg_good site c s e) (legs site c e) is)

step_good : (site : Site) (c : ℕ) (s : Step) → broken_in_step site c s ≡ [] → StepGood site c s
step_good site c s is =
    let all : AllByRecursion (λ (k : Kept). broken_of k ≡ []) (rules_at site c s (goes_on site c s) (exchanges_in site c s)) = each_none broken_of (rules_at site c s (goes_on site c s) (exchanges_in site c s)) is in
    record {
      good = record {
        replies = is_kept _ _ all.0;
        replies_end = is_kept _ _ all.1.0;
        launches = is_kept _ _ all.1.1.0;
        talk_acts = is_kept _ _ all.1.1.1.0;
        upgrades = is_kept _ _ all.1.1.1.1.0;
        talks = is_kept _ _ all.1.1.1.1.1.0;
        shuts = is_kept _ _ all.1.1.1.1.1.1.0;
        wants = is_kept _ _ all.1.1.1.1.1.1.1.0;
        form = is_kept _ _ all.1.1.1.1.1.1.1.1.0;
        order = is_kept _ _ all.1.1.1.1.1.1.1.1.1.0;
      };
      ready = record {
        begins = is_kept _ _ all.1.1.1.1.1.1.1.1.1.1.0;
        answers = is_kept _ _ all.1.1.1.1.1.1.1.1.1.1.1.0;
        in_turn = is_kept _ _ all.1.1.1.1.1.1.1.1.1.1.1.1.0;
        hops = is_kept _ _ all.1.1.1.1.1.1.1.1.1.1.1.1.1.0;
        hears = is_kept _ _ all.1.1.1.1.1.1.1.1.1.1.1.1.1.1.0;
        continues = is_kept _ _ all.1.1.1.1.1.1.1.1.1.1.1.1.1.1.1.0;
        says = is_kept _ _ all.1.1.1.1.1.1.1.1.1.1.1.1.1.1.1.1.0;
        stops = is_kept _ _ all.1.1.1.1.1.1.1.1.1.1.1.1.1.1.1.1.1.0;
        streams = is_kept _ _ all.1.1.1.1.1.1.1.1.1.1.1.1.1.1.1.1.1.1.0;
        no_sooner = is_kept _ _ all.1.1.1.1.1.1.1.1.1.1.1.1.1.1.1.1.1.1.1.0;
        takes_no_memory = is_kept _ _ all.1.1.1.1.1.1.1.1.1.1.1.1.1.1.1.1.1.1.1.1.0;
      };
      children = all_as (λ e. are_legs_good site c s e ≡ true) (LegsGood site c s) (λ e. legs_good site c s e) (exchanges_in site c s)
          (each_true (are_legs_good site c s) (exchanges_in site c s) (is_kept _ _ all.1.1.1.1.1.1.1.1.1.1.1.1.1.1.1.1.1.1.1.1.1.0));
    }

pub good_for : (site : Site) (c : ℕ) (L : List Item) → broken_for site c L ≡ [] → GoodFor site c L
good_for site c L is =
    all_as (λ s. broken_in_step site c s ≡ []) (StepGood site c) (λ s. step_good site c s) (steps L) (each_none (broken_in_step site c) (steps L) is)

-- ---- the whole trace

between_good : (site : Site) (s : Step) → broken_between site s ≡ [] → BetweenGood site s
between_good site s is =
    let two = front_none (name_if_broken _ (numbers s) ++ name_if_broken _ (owners s)) (name_if_broken _ (slots site s)) is in
    record {
      numbers = is_kept _ _ (front_none (name_if_broken _ (numbers s)) _ two);
      owners = is_kept _ _ (rest_none (name_if_broken _ (numbers s)) _ two);
      slots = is_kept _ _ (rest_none (name_if_broken _ (numbers s) ++ name_if_broken _ (owners s)) _ is);
    }

each_below : (site : Site) (T : List Item) (n : ℕ) → broken_below site T n ≡ [] → (c : ℕ) → c < n → broken_for site c (own T c) ≡ []
each_below site T zero is c lt = absurd (omega (arith, lt))
each_below site T (suc n) is c lt = elim (cases_lt c n) [
  | inl below ↦ each_below site T n (front_none (broken_below site T n) _ is) c below
  | inr top ↦
      let same : n ≡ c = omega (arith, lt, top) in
      subst (λ (d : ℕ). broken_for site d (own T d) ≡ []) same (rest_none (broken_below site T n) _ is)
]

pub good_by_verdict : (site : Site) (T : List Item) → broken_by site T ≡ [] → Good site T
good_by_verdict site T is =
    let two = front_none (name_if_broken _ (begins_with_event T) ++ flat_map (broken_between site) (steps T)) (broken_below site T (accepted_count T)) is in
    record {
      begun = is_kept _ _ (front_none (name_if_broken _ (begins_with_event T)) _ two);
      between = all_as (λ s. broken_between site s ≡ []) (BetweenGood site) (λ s. between_good site s) (steps T)
          (each_none (broken_between site) (steps T) (rest_none (name_if_broken _ (begins_with_event T)) _ two));
      connections = λ c known. good_for site c (own T c)
          (each_below site T (accepted_count T) (rest_none (name_if_broken _ (begins_with_event T) ++ flat_map (broken_between site) (steps T)) _ is) c (ltb-true c (accepted_count T) known));
    }
