use Rattle.std.proofs.Common.{length, arith}
use Rattle.std.proofs.lemmas.List.Elements.{AllWithin-none, AllWithin-more_set, AllWithin-upto, All-from_all_within}
use Rattle.edge_loop.specs.Loops.{IsHalted}
use Rattle.edge_loop.proofs.stock.halt_all.Goals as goal

pub loop-i-init : goal.loop-i-init
loop-i-init g c = AllWithin-none IsHalted c.args.outs.now 0

pub loop-i-preserved : goal.loop-i-preserved
loop-i-preserved g c =
    AllWithin-more_set c.loop-i.outs c.loop-i.i c.halt.new.self (omega (arith, c.loop-i-test.true, c.loop-i.auto.outs)) IsHalted c.loop-i.invariant c.halt.ensures.halted

pub returns : goal.returns
returns g c =
    All-from_all_within IsHalted c.loop-i.outs
    (AllWithin-upto IsHalted c.loop-i.outs 0 c.loop-i.i (length c.loop-i.outs) (omega (arith, c.loop-i-test.false, c.loop-i.auto.outs)) c.loop-i.invariant)
