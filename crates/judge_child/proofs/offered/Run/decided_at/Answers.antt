use Rattle.std.proofs.Common.{arith, sym, ◌∙◌}
use Rattle.trace_child.specs.Decided.{decides_run}
use Rattle.judge_child.specs.Runs.{run_by}
use Rattle.judge_child.proofs.FrontLaws.{front_step, take_one_more}
use Rattle.judge_child.proofs.offered.Run.decided_at.Goals as goal

pub loop-i-preserved : goal.loop-i-preserved
loop-i-preserved g c =
    let self = c.args.self.now in
    let run = run_by self.conn self.child self.kind self.limits.now (g.O.Offered.offered self.body) in
    let more = take_one_more c.args.items.now c.loop-i.i c.index-items-i.result c.loop-i-test.true c.index-items-i.is in
    record {
      rest = c.loop-i.invariant.rest ∙ front_step (decides_run run) c.args.items.now c.loop-i.i c.index-items-i.result c.loop-i-test.true c.index-items-i.is (sym c.in_ok-decides.ensures ∙ c.if-branch.false);
      counted = rw more (c.note.ensures.counted _ c.loop-i.invariant.counted);
      output = omega (arith, c.note.ensures.output, c.loop-i.invariant.output);
      ticks = omega (arith, c.note.ensures.ticks, c.loop-i.invariant.ticks);
    }
