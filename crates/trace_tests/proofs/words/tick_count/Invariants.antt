-- The Ticks of the items before this one.
use Rattle.std.proofs.Common.{◌≡◌, ◌≤◌, take}
use Rattle.host_trace.specs.Projections.{tick_count}
use Rattle.trace_tests.proofs.words.tick_count.Given as goal

abbrev pub invariant-loop-item : goal.invariant-loop-item
invariant-loop-item l = record {
  count : l.count ≡ tick_count (take l.item-index l.items);
  few : l.count ≤ l.item-index;
}
