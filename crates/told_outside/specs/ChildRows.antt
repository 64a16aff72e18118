-- Which rows are kept of the children, and what they say.
use Rattle.std.specs.Prelude.{ℕ, ◌≡◌, ◌≤◌, Bool, true, not, Option, Some, ◌&&◌, List}
use Rattle.host_trace.specs.declared.items.Item.{Item}
use Rattle.trace_tallies.specs.declared.child_tally.ChildTally.{ChildTally}
use Rattle.trace_tallies.specs.ChildTallies.{child_tally, no_child, settles}
use Rattle.told_outside.specs.declared.child_rows.ChildRows.{ChildRows}
use Rattle.told_outside.specs.Rows.{row_at}

-- its start was asked for, and something of it may be left in the machine
abbrev pub lives : ChildTally → Bool
lives tally = tally.is_asked_for && not (settles tally)

-- The rows are those of the trace, and of unsettled children alone; and nothing names a child from the bound on.
pub record ChildrenTie (r : ChildRows) (T : List Item) : Type 0 where
  pub each : (q : ℕ) (t : ChildTally) → row_at r.rows q ≡ Some t → t ≡ child_tally T q
  pub live_rows : (q : ℕ) (t : ChildTally) → row_at r.rows q ≡ Some t → lives t ≡ true
  pub later : (q : ℕ) → r.named ≤ q → child_tally T q ≡ no_child
