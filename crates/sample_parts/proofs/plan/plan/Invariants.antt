-- The connections so far, where the generator stands after them, and how many of them have a child.
use Rattle.std.proofs.Common.{◌≡◌, ◌≤◌, ◌<◌}
use Rattle.sample_parts.specs.Plan.{children_below, drawn, plan}
use Rattle.sample_parts.proofs.plan.plan.Given as goal

abbrev pub invariant-loop-c : goal.invariant-loop-c
invariant-loop-c l = record {
  planned : l.planned.items ≡ plan l.seed l.c;
  drawn : l.x ≡ drawn l.seed l.c;
  below : l.x < 65537;
  children : l.k ≡ children_below l.seed l.c;
  few : l.k ≤ l.c;
}
