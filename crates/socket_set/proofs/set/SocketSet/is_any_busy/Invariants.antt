use Rattle.std.proofs.Common.{All}
use Rattle.socket_set.specs.Clients.{IsStillOrShut}
use Rattle.socket_set.proofs.set.SocketSet.is_any_busy.Given as goal

abbrev pub invariant-loop-client : goal.invariant-loop-client
invariant-loop-client g l = All (λ row. IsStillOrShut row.1) l.client-iterator → All (λ row. IsStillOrShut row.1) l.self.rows
