use Rattle.std.proofs.Common.{◌≡◌, true, All}
use Rattle.socket_set.proofs.set.SocketSet.is_all_shut.Given as goal

abbrev pub invariant-loop-client : goal.invariant-loop-client
invariant-loop-client g l = All (λ row. row.1.shut ≡ true) l.client-iterator → All (λ row. row.1.shut ≡ true) l.self.rows
