-- The tallies of all children, with the tally of one more.
use Rattle.std.proofs.Common.{◌≡◌, ℕ, Bool, Some, refl, sym, ◌∙◌, ap, subst, inl, inr}
use Rattle.std.specs.Prelude.{◌==◌, if◌then◌else◌}
use Rattle.std.specs.Ordering.{nat_cmp}
use Rattle.std.specs.Option.{unwrap_or}
use Rattle.std.specs.BTreeMap.{BTreeMap, get}
use Rattle.std.specs.BTreeSet.{BTreeSet, contains}
use Rattle.std.proofs.lemmas.Bool.{cond-true, cond-false, eqb-true, cases_Bool}
use Rattle.host_trace.specs.declared.items.Item.{Item}
use Rattle.host_trace.specs.Kinds.{names_child}
use Rattle.trace_tallies.specs.declared.child_tally.ChildTally.{ChildTally}
use Rattle.trace_tallies.specs.ChildTallies.{child_with, no_child}
use Rattle.trace_tallies.proofs.ChildTallyLaws.{child_rests}
use Rattle.memory_world.specs.ChildTallies.{child_at, Sets}

pub children_kept : (rows now : BTreeMap ℕ ChildTally) (x : Item) (k : ℕ) (tally : ChildTally) →
    ((q : ℕ) → get nat_cmp now q ≡ (if q == k then Some tally else get nat_cmp rows q)) → ((q : ℕ) → names_child q x ≡ (q == k)) →
    tally ≡ child_with k x (child_at rows k) → (q : ℕ) → child_at now q ≡ child_with q x (child_at rows q)
children_kept rows now x k tally kept named is q =
    elim (cases_Bool (q == k)) [
      | inl holds ↦
          let same_one : q ≡ k = eqb-true q k holds in
          ap (λ o. unwrap_or o no_child) (kept q ∙ cond-true _ _ _ holds)
          ∙ (is ∙ subst (λ d. child_with d x (child_at rows d) ≡ child_with q x (child_at rows q)) same_one refl)
      | inr fails ↦
          ap (λ o. unwrap_or o no_child) (kept q ∙ cond-false _ _ _ fails)
          ∙ sym (child_rests q x (child_at rows q) (named q ∙ fails))
    ]

-- a set of those that pass goes on with the tallies
pub sets_kept : (test : ChildTally → Bool) (rows now : BTreeMap ℕ ChildTally) (was is : BTreeSet ℕ) (k : ℕ) (tally : ChildTally) →
    ((q : ℕ) → get nat_cmp now q ≡ (if q == k then Some tally else get nat_cmp rows q)) →
    ((q : ℕ) → contains nat_cmp is q ≡ (if q == k then test tally else contains nat_cmp was q)) →
    Sets test rows was → Sets test now is
sets_kept test rows now was is k tally kept put old q =
    elim (cases_Bool (q == k)) [
      | inl holds ↦
          (put q ∙ cond-true _ _ _ holds) ∙ sym (ap (λ o. test (unwrap_or o no_child)) (kept q ∙ cond-true _ _ _ holds))
      | inr fails ↦
          (put q ∙ cond-false _ _ _ fails) ∙ (old q ∙ sym (ap (λ o. test (unwrap_or o no_child)) (kept q ∙ cond-false _ _ _ fails)))
    ]
