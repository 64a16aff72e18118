-- The count of the items so far.
use Rattle.std.proofs.Common.{◌≡◌, ◌≤◌, take}
use Rattle.std.specs.Prelude.{count_by}
use Rattle.host_trace.specs.Kinds.{is_accepted}
use Rattle.sample_parts.proofs.counts.accepted_count.Given as goal

abbrev pub invariant-loop-item : goal.invariant-loop-item
invariant-loop-item l = record {
  count : l.count ≡ count_by is_accepted (take l.item-index l.items);
  few : l.count ≤ l.item-index;
}
