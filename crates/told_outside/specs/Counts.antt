-- How many children may need a row.
use Rattle.std.specs.Prelude.{ℕ, Bool, not, List, count_by}
use Rattle.host_trace.specs.declared.items.Item.{Item}
use Rattle.host_trace.specs.Projections.{start_numbers}
use Rattle.trace_tallies.specs.ChildTallies.{child_tally, settles}

-- its start was not refused, and it was not reaped, or one of its pipes has not ended
abbrev pub is_unsettled : List Item → ℕ → Bool
is_unsettled T k = not (settles (child_tally T k))

-- how many were to be started that are not settled
abbrev pub unsettled_count : List Item → ℕ
unsettled_count T = count_by (is_unsettled T) (start_numbers T)
