use Rattle.once_edge.proofs.Quiet.{quiet_self, counts_self}
use Rattle.once_edge.proofs.outside.OnceOutside.hear_end.Goals as goal

pub returns-else-is_over-clause-none : goal.returns-else-is_over-clause-none
returns-else-is_over-clause-none g c = λ n. (quiet_self _ _, counts_self _)
