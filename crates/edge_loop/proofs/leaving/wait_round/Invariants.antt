use Rattle.std.proofs.Common.{All}
use Rattle.edge_loop.proofs.leaving.wait_round.Given as goal

abbrev pub invariant-loop-i : goal.invariant-loop-i
invariant-loop-i g l = All g.E.Leaving.is_halted l.initial.outs → All g.E.Leaving.is_halted l.outs
