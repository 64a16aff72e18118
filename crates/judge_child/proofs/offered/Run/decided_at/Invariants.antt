-- Nothing decided the run so far, and what counts is counted.
use Rattle.std.proofs.Common.{◌≡◌, ◌≤◌, ◌-◌, ◌*◌, ◌^◌, take, drop}
use Rattle.host_trace.specs.First.{first_front_from}
use Rattle.trace_child.specs.Decided.{decided_at, decides_run}
use Rattle.judge_child.specs.Counts.{IsCounted}
use Rattle.judge_child.specs.Runs.{run_by}
use Rattle.judge_child.proofs.offered.Run.decided_at.Given as goal

abbrev pub invariant-loop-i : goal.invariant-loop-i
invariant-loop-i g l = record {
  rest : decided_at (run_by l.self.conn l.self.child l.self.kind l.self.limits.now (g.O.Offered.offered l.self.body)) l.items
      ≡ first_front_from (decides_run (run_by l.self.conn l.self.child l.self.kind l.self.limits.now (g.O.Offered.offered l.self.body))) (take l.i l.items) (drop l.i l.items);
  counted : IsCounted l.counted l.self.child (take l.i l.items);
  output : l.counted.output ≤ l.i * (2 ^ 64 - 1);
  ticks : l.counted.ticks ≤ l.i;
}
