-- What the items so far fed and took.
use Rattle.std.proofs.Common.{◌≤◌, ◌-◌, ◌*◌, ◌^◌, take}
use Rattle.judge_child.specs.Counts.{IsFlow}
use Rattle.judge_child.proofs.bodies.flow_of.Given as goal

abbrev pub invariant-loop-i : goal.invariant-loop-i
invariant-loop-i l = record {
  flow : IsFlow l.flow l.k (take l.i l.items);
  fed : l.flow.fed ≤ l.i * (2 ^ 64 - 1);
  took : l.flow.took ≤ l.i * (2 ^ 64 - 1);
}
