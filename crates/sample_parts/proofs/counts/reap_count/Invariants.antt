-- The count of the items so far.
use Rattle.std.proofs.Common.{◌≡◌, ◌≤◌, take}
use Rattle.std.specs.Prelude.{count_by}
use Rattle.sample_parts.specs.Counts.{is_any_exit}
use Rattle.sample_parts.proofs.counts.reap_count.Given as goal

abbrev pub invariant-loop-item : goal.invariant-loop-item
invariant-loop-item l = record {
  count : l.count ≡ count_by is_any_exit (take l.item-index l.items);
  few : l.count ≤ l.item-index;
}
