use Rattle.std.proofs.Common.{arith, sym, ◌∙◌}
use Rattle.trace_child.specs.Bodies.{is_fed_in_turn as may_be_fed}
use Rattle.judge_child.proofs.FrontLaws.{take_one_more}
use Rattle.judge_child.proofs.PartLaws.{each_step}
use Rattle.judge_child.proofs.bodies.are_fed_in_turn.Goals as goal

pub loop-i-preserved : goal.loop-i-preserved
loop-i-preserved c =
    let more = take_one_more c.args.items.now c.loop-i.i c.index-items-i.result c.loop-i-test.true c.index-items-i.is in
    let is = sym (c.is_fed_in_turn.ensures _ c.loop-i.invariant.flow) in
    record {
      rest = c.loop-i.invariant.rest ∙ each_step (may_be_fed c.args.k) c.args.items.now c.loop-i.i c.index-items-i.result c.loop-i-test.true c.index-items-i.is (is ∙ c.if-not-is_fed_in_turn.false);
      flow = rw more (c.note.ensures.flow _ c.loop-i.invariant.flow);
      fed = omega (arith, c.note.ensures.fed, c.loop-i.invariant.fed);
      took = omega (arith, c.note.ensures.took, c.loop-i.invariant.took);
    }
