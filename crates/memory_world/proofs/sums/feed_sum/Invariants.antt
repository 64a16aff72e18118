-- The sum of the items so far, each of which adds less than 2^64.
use Rattle.std.proofs.Common.{◌≡◌, ◌≤◌, ◌*◌, ◌-◌, ◌^◌, take, length}
use Rattle.std.specs.Prelude.{sum_by}
use Rattle.host_trace.specs.Kinds.{input_fed}
use Rattle.memory_world.proofs.sums.feed_sum.Given as goal

abbrev pub invariant-loop-item : goal.invariant-loop-item
invariant-loop-item l = record {
  sum : l.sum ≡ sum_by (λ x. length (input_fed l.k x)) (take l.item-index l.items);
  few : l.sum ≤ l.item-index * (2 ^ 64 - 1);
}
