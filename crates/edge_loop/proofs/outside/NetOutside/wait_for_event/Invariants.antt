use Rattle.edge_loop.specs.Loops.{IsQuiet, Counts}
use Rattle.edge_loop.proofs.outside.NetOutside.wait_for_event.Given as goal

abbrev pub invariant-loop : goal.invariant-loop
invariant-loop g l = IsQuiet g.S.Kid.Kid.tells l.fn.self l.self × Counts l.fn.self l.self
