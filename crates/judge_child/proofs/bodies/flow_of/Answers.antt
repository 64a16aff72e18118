use Rattle.std.proofs.Common.{arith}
use Rattle.judge_child.proofs.FrontLaws.{take_one_more}
use Rattle.judge_child.proofs.bodies.flow_of.Goals as goal

pub loop-i-preserved : goal.loop-i-preserved
loop-i-preserved c =
    let more = take_one_more c.args.items.now c.loop-i.i c.index-items-i.result c.loop-i-test.true c.index-items-i.is in
    record {
      flow = rw more (c.note.ensures.flow _ c.loop-i.invariant.flow);
      fed = omega (arith, c.note.ensures.fed, c.loop-i.invariant.fed);
      took = omega (arith, c.note.ensures.took, c.loop-i.invariant.took);
    }
