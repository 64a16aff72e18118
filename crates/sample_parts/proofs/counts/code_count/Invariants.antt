-- The count of the codes so far.
use Rattle.std.proofs.Common.{◌≡◌, ◌≤◌}
use Rattle.std.specs.Prelude.{◌==◌, slice_index}
use Rattle.sample_parts.specs.Counts.{count_below}
use Rattle.sample_parts.proofs.counts.code_count.Given as goal

abbrev pub invariant-loop-one : goal.invariant-loop-one
invariant-loop-one l = record {
  count : l.count ≡ count_below (λ c. slice_index l.codes c == l.code) l.one-index;
  few : l.count ≤ l.one-index;
}
