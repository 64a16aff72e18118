use Rattle.std.proofs.Common.{All}
use Rattle.edge_loop.proofs.leaving.send_all.Given as goal

abbrev pub invariant-loop : goal.invariant-loop
invariant-loop g l = All g.E.Leaving.is_halted l.initial.outs → All g.E.Leaving.is_halted l.outs
