-- For whom the rules on children hold.
use Rattle.std.proofs.Common.{◌≡◌, ℕ, Bool, true, false, cond, List, [], ◌∷◌, refl, sym, ap, subst, ◌∙◌, inl, inr}
use Rattle.std.specs.Prelude.{not, ◌==◌, ◌||◌, filter}
use Rattle.std.proofs.lemmas.Bool.{cases_Bool, cond-true, cond-false, eqb-true, true≢false}
use Rattle.host_trace.specs.Account.{settled}
use Rattle.host_trace.specs.Projections.{children}
use Rattle.host_trace.specs.Trace.{Step, end_of}
use Rattle.own_traces.specs.Whose.{has}
use Rattle.front_rules.specs.RuleLaws.{ChildrenAreTold}

module _ (p : ℕ → Bool) (k : ℕ) (passes : p k ≡ true) where
  other : (j : ℕ) → p j ≡ false → (j == k) ≡ false
  other j fails = elim (cases_Bool (j == k)) [
    | inl same ↦ absurd (true≢false (sym passes ∙ ap p (sym (eqb-true j k same)) ∙ fails))
    | inr is ↦ is
  ]

  has_filtered : (ks : List ℕ) → has (filter p ks) k ≡ has ks k
  has_filtered [] = refl
  has_filtered (j ∷ ks) = elim (cases_Bool (p j)) [
    | inl passing ↦
        ap (λ l. has l k) (cond-true (p j) (j ∷ filter p ks) (filter p ks) passing) ∙ ap (λ b. (j == k) || b) (has_filtered ks)
    | inr failing ↦
        ap (λ l. has l k) (cond-false (p j) (j ∷ filter p ks) (filter p ks) failing) ∙ has_filtered ks ∙ sym (ap (λ b. b || has ks k) (other j failing))
  ]

pub children_are_told : ChildrenAreTold
children_are_told c k s unsettled = has_filtered (λ j. not (settled s.before j)) k (ap not unsettled) (children (end_of s) c)
