use Rattle.std.proofs.Common.{◌≡◌, [], All}
use Rattle.socket_set.proofs.set.SocketSet.is_all_sent.Given as goal

abbrev pub invariant-loop-client : goal.invariant-loop-client
invariant-loop-client g l = All (λ row. row.1.outgoing ≡ []) l.client-iterator → All (λ row. row.1.outgoing ≡ []) l.self.rows
