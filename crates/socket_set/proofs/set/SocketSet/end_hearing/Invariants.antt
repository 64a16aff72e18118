use Rattle.std.proofs.Common.{◌-◌}
use Rattle.socket_set.specs.Clients.{EndsHearing}
use Rattle.socket_set.proofs.Each.{OnBelow}
use Rattle.socket_set.proofs.set.SocketSet.end_hearing.Given as goal

abbrev pub invariant-loop-c : goal.invariant-loop-c
invariant-loop-c g l = OnBelow EndsHearing l.c l.fn.self l.self

abbrev pub decreases-loop-c : goal.decreases-loop-c
decreases-loop-c g l = l.self.accepted - l.c
