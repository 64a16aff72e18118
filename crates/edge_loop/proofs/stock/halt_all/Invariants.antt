use Rattle.std.specs.List.{AllWithin}
use Rattle.edge_loop.specs.Loops.{IsHalted}
use Rattle.edge_loop.proofs.stock.halt_all.Given as goal

abbrev pub invariant-loop-i : goal.invariant-loop-i
invariant-loop-i g l = AllWithin IsHalted l.outs 0 l.i
