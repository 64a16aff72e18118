use Rattle.once_edge.specs.Once.{IsQuiet, Counts}
use Rattle.once_edge.proofs.outside.OnceOutside.wait_for_event.Given as goal

abbrev pub invariant-loop : goal.invariant-loop
invariant-loop g l = IsQuiet g.S.Kid.Kid.tells l.fn.self l.self × Counts l.fn.self l.self
