-- The counts of the items so far.
use Rattle.std.proofs.Common.{◌≡◌, ◌≤◌, take}
use Rattle.std.specs.Prelude.{count_by}
use Rattle.host_trace.specs.Kinds.{is_client_answer, is_want_client}
use Rattle.memory_world.proofs.fit.client_wanted.Given as goal

abbrev pub invariant-loop-item : goal.invariant-loop-item
invariant-loop-item l = record {
  wants : l.wants ≡ count_by (is_want_client l.c) (take l.item-index l.items);
  few_wants : l.wants ≤ l.item-index;
  answers : l.answers ≡ count_by (is_client_answer l.c) (take l.item-index l.items);
  few_answers : l.answers ≤ l.item-index;
}
