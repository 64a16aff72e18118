-- The count of the fronts so far.
use Rattle.std.proofs.Common.{◌≡◌, ◌≤◌, [], length}
use Rattle.std.specs.Prelude.{◌==◌, slice_index_or}
use Rattle.sample_parts.specs.Counts.{count_below}
use Rattle.sample_parts.proofs.counts.none_count.Given as goal

abbrev pub invariant-loop-front : goal.invariant-loop-front
invariant-loop-front l = record {
  count : l.count ≡ count_below (λ c. length (slice_index_or l.fronts c []) == 0) l.front-index;
  few : l.count ≤ l.front-index;
}
