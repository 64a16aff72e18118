-- What the items so far fed and took, and each was fed in its turn.
use Rattle.std.proofs.Common.{◌≡◌, ◌≤◌, ◌-◌, ◌*◌, ◌^◌, drop, take}
use Rattle.trace_child.specs.Bodies.{is_fed_in_turn}
use Rattle.trace_child.specs.Words.{each, each_from}
use Rattle.judge_child.specs.Counts.{IsFlow}
use Rattle.judge_child.proofs.bodies.are_fed_in_turn.Given as goal

abbrev pub invariant-loop-i : goal.invariant-loop-i
invariant-loop-i l = record {
  rest : each (is_fed_in_turn l.k) l.items ≡ each_from (is_fed_in_turn l.k) (take l.i l.items) (drop l.i l.items);
  flow : IsFlow l.flow l.k (take l.i l.items);
  fed : l.flow.fed ≤ l.i * (2 ^ 64 - 1);
  took : l.flow.took ≤ l.i * (2 ^ 64 - 1);
}
