-- The counts of the items so far.
use Rattle.std.proofs.Common.{◌≡◌, ◌≤◌, take}
use Rattle.std.specs.Prelude.{count_by}
use Rattle.host_trace.specs.Kinds.{is_child_answer, is_want_child}
use Rattle.memory_world.proofs.fit.child_wanted.Given as goal

abbrev pub invariant-loop-item : goal.invariant-loop-item
invariant-loop-item l = record {
  wants : l.wants ≡ count_by (is_want_child l.k) (take l.item-index l.items);
  few_wants : l.wants ≤ l.item-index;
  answers : l.answers ≡ count_by (is_child_answer l.k) (take l.item-index l.items);
  few_answers : l.answers ≤ l.item-index;
}
