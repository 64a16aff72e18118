-- Which rows are kept of the connections, and what they say.
use Rattle.std.specs.Prelude.{ℕ, ◌≡◌, ◌≤◌, Bool, true, false, not, Option, Some, None, ◌&&◌, ◌==◌, List, if◌then◌else◌}
use Rattle.host_trace.specs.declared.items.Item.{Item}
use Rattle.host_trace.specs.Projections.{accepted_count}
use Rattle.host_trace.specs.Fits.{is_open}
use Rattle.trace_tallies.specs.declared.client_tally.ClientTally.{ClientTally}
use Rattle.trace_tallies.specs.ClientTallies.{client_tally, no_client}
use Rattle.told_outside.specs.declared.client_rows.ClientRows.{ClientRows}
use Rattle.told_outside.specs.Rows.{row_at}

-- The rows are those of the trace, and of open connections alone; nothing names a connection from the bound on; and the one for
-- which no memory was found is open.
pub record ClientsTie (r : ClientRows) (T : List Item) : Type 0 where
  pub each : (q : ℕ) (t : ClientTally) → row_at r.rows q ≡ Some t → t ≡ client_tally T q
  pub open_rows : (q : ℕ) (t : ClientTally) → row_at r.rows q ≡ Some t → is_open T q ≡ true
  pub later : (q : ℕ) → r.named ≤ q → client_tally T q ≡ no_client
  pub accepted : r.accepted ≤ accepted_count T
  pub orphan_is_open : (q : ℕ) → r.orphan ≡ Some q → is_open T q ≡ true

abbrev pub is_orphan : Option ℕ → ℕ → Bool
is_orphan None c = false
is_orphan (Some d) c = d == c

-- it is no orphan any more once it is shut
abbrev pub orphan_after : Option ℕ → Bool → ℕ → Option ℕ
orphan_after orphan shuts c = if shuts && is_orphan orphan c then None else orphan
