-- The rows of the children go on with one item more.
use Rattle.std.proofs.Common.{◌≡◌, ◌≤◌, ℕ, true, false, List, [], ◌∷◌, ◌++◌, Option, Some, sym, ◌∙◌, subst, inl, inr}
use Rattle.std.specs.Prelude.{◌==◌}
use Rattle.host_trace.specs.declared.items.Item.{Item}
use Rattle.host_trace.specs.Kinds.{names_child}
use Rattle.trace_tallies.specs.declared.child_tally.ChildTally.{ChildTally}
use Rattle.trace_tallies.specs.ChildTallies.{child_tally}
use Rattle.trace_tallies.proofs.ChildTallyLaws.{child_tally-push, child_rests}
use Rattle.told_outside.specs.declared.child_rows.ChildRows.{ChildRows}
use Rattle.told_outside.specs.Rows.{row_at, Puts, past}
use Rattle.told_outside.specs.ChildRows.{ChildrenTie, lives}
use Rattle.told_outside.proofs.RowLaws.{put_cases, past_both, not_same}

rests : (T : List Item) (x : Item) (q : ℕ) → names_child q x ≡ false → child_tally (T ++ x ∷ []) q ≡ child_tally T q
rests T x q other = child_tally-push T x q ∙ child_rests q x (child_tally T q) other

-- an item that names d, whose row is now that of the longer trace, where there is one
pub children_on : (r n : ChildRows) (T : List Item) (x : Item) (d : ℕ) (row : Option ChildTally) → ChildrenTie r T → Puts r.rows d row n.rows →
    ((q : ℕ) → names_child q x ≡ (q == d)) → ((t : ChildTally) → row ≡ Some t → (t ≡ child_tally (T ++ x ∷ []) d) × (lives t ≡ true)) →
    n.named ≡ past r.named d → ChildrenTie n (T ++ x ∷ [])
children_on r n T x d row tie puts named is bound = record {
  each = λ q t e.
      elim (put_cases r.rows n.rows d q row t puts e) [
        | inl this ↦ subst (λ m. t ≡ child_tally (T ++ x ∷ []) m) (sym this.0) (is t this.1).0
        | inr other ↦ tie.each q t other.1 ∙ sym (rests T x q (named q ∙ other.0))
      ];
  live_rows = λ q t e.
      elim (put_cases r.rows n.rows d q row t puts e) [
        | inl this ↦ (is t this.1).1
        | inr other ↦ tie.live_rows q t other.1
      ];
  later = λ q h. let b = past_both r.named d q (subst (λ m. m ≤ q) bound h) in rests T x q (named q ∙ not_same q d b.1) ∙ tie.later q b.0;
}

-- an item that names no child
pub children_off : (r : ChildRows) (T : List Item) (x : Item) → ChildrenTie r T → ((q : ℕ) → names_child q x ≡ false) → ChildrenTie r (T ++ x ∷ [])
children_off r T x tie named = record {
  each = λ q t e. tie.each q t e ∙ sym (rests T x q (named q));
  live_rows = tie.live_rows;
  later = λ q h. rests T x q (named q) ∙ tie.later q h;
}
