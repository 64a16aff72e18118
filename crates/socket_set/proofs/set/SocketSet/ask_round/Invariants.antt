use Rattle.socket_set.specs.Sets.{IsQuiet, Counted}
use Rattle.socket_set.proofs.set.SocketSet.ask_round.Given as goal

abbrev pub invariant-loop : goal.invariant-loop
invariant-loop g l = IsQuiet l.fn.self l.self × Counted l.fn.self l.self
