use Rattle.edge_loop.proofs.leaving.send_one.Given as goal

abbrev pub invariant-loop : goal.invariant-loop
invariant-loop g l = g.E.Leaving.is_halted l.initial.out → g.E.Leaving.is_halted l.out
