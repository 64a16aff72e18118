use Rattle.socket_set.specs.Sets.{IsQuiet, SameDevices}
use Rattle.socket_set.proofs.set.SocketSet.tick_leaving.Given as goal

abbrev pub invariant-loop : goal.invariant-loop
invariant-loop g l = IsQuiet l.fn.self l.self × SameDevices l.fn.self l.self
