use Rattle.std.proofs.Common.{◌-◌}
use Rattle.edge_loop.proofs.Closing.{ClosedBelow}
use Rattle.edge_loop.proofs.outside.shut_all.Given as goal

abbrev pub invariant-loop-c : goal.invariant-loop-c
invariant-loop-c g l = ClosedBelow l.c l.initial.sockets l.sockets

abbrev pub decreases-loop-c : goal.decreases-loop-c
decreases-loop-c g l = l.sockets.accepted - l.c
