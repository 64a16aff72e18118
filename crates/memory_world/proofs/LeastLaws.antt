-- The least of a set's numbers is the least that a trace names.
use Rattle.std.proofs.Common.{◌≡◌, ℕ, ◌≤◌, Bool, true, false, List, [], ◌∷◌, Option, Some, None, refl, sym, ◌∙◌, ap, min, arith, subst, inl, inr}
use Rattle.std.specs.Prelude.{filter, not, ◌||◌, ◌&&◌, ◌==◌}
use Rattle.std.specs.List.{flat_map, fold, list_any}
use Rattle.std.proofs.lemmas.List.Concat.{flat_map-cons}
use Rattle.std.proofs.lemmas.List.Folds.{list_any-append}
use Rattle.std.proofs.lemmas.Bool.{cases_Bool, eqb-true, cond-true, cond-false}
use Rattle.host_trace.specs.declared.items.Event.TheVariants.{Started}
use Rattle.host_trace.specs.declared.items.Act.TheVariants.{Start}
use Rattle.host_trace.specs.declared.items.Item.{Item}
use Rattle.host_trace.specs.declared.items.Item.TheVariants.{In, Out}
use Rattle.host_trace.specs.Kinds.{is_start, is_started, start_number}
use Rattle.host_trace.specs.Projections.{start_stands, start_answered, started, exited}
use Rattle.host_trace.specs.Fits.{is_start_open}
use Rattle.memory_world.specs.NextEvent.{least, lesser, open_starts, running, started_number}
use Rattle.memory_world.specs.ChildTallies.{IsLeast}
use Rattle.memory_world.proofs.NextLaws.{OfSome, start_fits, exit_fits}

-- there is a number, and it is at most k
abbrev Below : Option ℕ → ℕ → Type 0
Below None k = ⊥
Below (Some m) k = m ≤ k

min_left : (a b : ℕ) → min a b ≤ a
min_left a b = omega arith

min_right : (a b : ℕ) → min a b ≤ b
min_right a b = omega arith

lesser_below : (o : Option ℕ) (j k : ℕ) → Below o k → Below (lesser o j) k
lesser_below None j k below = absurd below
lesser_below (Some m) j k below = let le = min_left m j in omega arith

lesser_new : (o : Option ℕ) (j : ℕ) → Below (lesser o j) j
lesser_new None j = omega arith
lesser_new (Some m) j = min_right m j

fold_below : (o : Option ℕ) (ks : List ℕ) (k : ℕ) → Below o k → Below (fold lesser o ks) k
fold_below o [] k below = below
fold_below o (j ∷ ks) k below = fold_below (lesser o j) ks k (lesser_below o j k below)

rest_true : (a b : Bool) → a ≡ false → (a || b) ≡ true → b ≡ true
rest_true true b fails is = absurd (cc)
rest_true false b fails is = is

-- what passes a filter and is listed is not below the least
listed_below : (keep : ℕ → Bool) (o : Option ℕ) (ks : List ℕ) (k : ℕ) → list_any (λ j. k == j) ks ≡ true → keep k ≡ true →
    Below (fold lesser o (filter keep ks)) k
listed_below keep o [] k is kept = absurd (cc)
listed_below keep o (j ∷ ks) k is kept =
    elim (cases_Bool (k == j)) [
      | inl holds ↦
          let e : k ≡ j = eqb-true k j holds in
          let kept_j : keep j ≡ true = subst (λ n. keep n ≡ true) e kept in
          let new : Below (lesser o j) k = subst (λ n. Below (lesser o j) n) (sym e) (lesser_new o j) in
          subst (λ js. Below (fold lesser o js) k) (sym (cond-true (keep j) (j ∷ filter keep ks) (filter keep ks) kept_j))
          (fold_below (lesser o j) (filter keep ks) k new)
      | inr fails ↦
          let later = rest_true (k == j) (list_any (λ j. k == j) ks) fails is in
          elim (cases_Bool (keep j)) [
            | inl holds ↦
                subst (λ js. Below (fold lesser o js) k) (sym (cond-true (keep j) (j ∷ filter keep ks) (filter keep ks) holds))
                (listed_below keep (lesser o j) ks k later kept)
            | inr drops ↦
                subst (λ js. Below (fold lesser o js) k) (sym (cond-false (keep j) (j ∷ filter keep ks) (filter keep ks) drops))
                (listed_below keep o ks k later kept)
          ]
    ]

-- an item that passes lists the number
any_listed : (test : ℕ → Item → Bool) (number : Item → List ℕ) (k : ℕ) → ((x : Item) → test k x ≡ list_any (λ j. k == j) (number x)) →
    (T : List Item) → list_any (test k) T ≡ list_any (λ j. k == j) (flat_map number T)
any_listed test number k each [] = refl
any_listed test number k each (x ∷ T) =
    rw (each x, any_listed test number k each T)
    (sym (ap (list_any (λ j. k == j)) (flat_map-cons number x T) ∙ list_any-append (λ j. k == j) (number x) (flat_map number T)))

or_no : (b : Bool) → b ≡ (b || false)
or_no true = refl
or_no false = refl

starts_listed : (k : ℕ) (x : Item) → is_start k x ≡ list_any (λ j. k == j) (start_number x)
starts_listed k (Out (Start d c j hop launch)) = or_no (k == d)
starts_listed k _ = refl

started_listed : (k : ℕ) (x : Item) → is_started k x ≡ list_any (λ j. k == j) (started_number x)
started_listed k (In (Started d)) = or_no (k == d)
started_listed k _ = refl

both_left : (a b : Bool) → (a && b) ≡ true → a ≡ true
both_left true b is = refl
both_left false b is = absurd (cc)

both_right : (a b : Bool) → (a && b) ≡ true → b ≡ true
both_right true b is = is
both_right false b is = absurd (cc)

same_least : (test passes : ℕ → Bool) (r l : Option ℕ) → IsLeast test r → ((k : ℕ) → test k ≡ passes k) → OfSome (λ k. passes k ≡ true) l →
    ((k : ℕ) → passes k ≡ true → Below l k) → r ≡ l
same_least test passes None None is same one below = refl
same_least test passes None (Some b) is same one below = absurd (let e : true ≡ false = sym one ∙ (sym (same b) ∙ is b) in cc)
same_least test passes (Some a) None is same one below = absurd (below a (sym (same a) ∙ is.0))
same_least test passes (Some a) (Some b) is same one below =
    let low : a ≤ b = is.1 b (same b ∙ one) in
    let high : b ≤ a = below a (sym (same a) ∙ is.0) in
    let e : a ≡ b = omega arith in
    ap Some e

pub least_open : (test : ℕ → Bool) (r : Option ℕ) (T : List Item) → IsLeast test r → ((k : ℕ) → test k ≡ is_start_open T k) → r ≡ least (open_starts T)
least_open test r T is same =
    same_least test (is_start_open T) r (least (open_starts T)) is same (start_fits T)
    (λ k passes. listed_below (λ k. not (start_answered T k)) None (flat_map start_number T) k
    (sym (any_listed is_start start_number k (starts_listed k) T) ∙ both_left (start_stands T k) (not (start_answered T k)) passes)
    (both_right (start_stands T k) (not (start_answered T k)) passes))

pub least_running : (test : ℕ → Bool) (r : Option ℕ) (T : List Item) → IsLeast test r →
    ((k : ℕ) → test k ≡ (started T k && not (exited T k))) → r ≡ least (running T)
least_running test r T is same =
    same_least test (λ k. started T k && not (exited T k)) r (least (running T)) is same (exit_fits T)
    (λ k passes. listed_below (λ k. not (exited T k)) None (flat_map started_number T) k
    (sym (any_listed is_started started_number k (started_listed k) T) ∙ both_left (started T k) (not (exited T k)) passes)
    (both_right (started T k) (not (exited T k)) passes))
