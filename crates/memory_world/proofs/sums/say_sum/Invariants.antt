-- The sum of the items so far, as far as a u128 goes.
use Rattle.std.proofs.Common.{◌≡◌, ◌-◌, ◌^◌, take, min}
use Rattle.std.specs.Prelude.{sum_by}
use Rattle.trace_tallies.specs.Sums.{texts_len}
use Rattle.memory_world.proofs.sums.say_sum.Given as goal

abbrev pub invariant-loop-item : goal.invariant-loop-item
invariant-loop-item l = l.sum ≡ min (sum_by (texts_len l.c) (take l.item-index l.items)) (2 ^ 128 - 1)
