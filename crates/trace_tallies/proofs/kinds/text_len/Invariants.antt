-- The sum of the texts so far, each of which adds less than 2^64.
use Rattle.std.proofs.Common.{◌≡◌, ◌≤◌, ◌*◌, ◌-◌, ◌^◌, take, length}
use Rattle.std.specs.Prelude.{sum_by}
use Rattle.trace_tallies.proofs.kinds.text_len.Given as goal

abbrev pub invariant-loop-text : goal.invariant-loop-text
invariant-loop-text l = record {
  sum : l.sum ≡ sum_by length (take l.text-index l.texts);
  few : l.sum ≤ l.text-index * (2 ^ 64 - 1);
}
