use Rattle.conn_flags.proofs.KnowsLaws.{flags_told}
use Rattle.conn_flags.proofs.laws.flags_are_exact.Goals as goal

pub returns : goal.returns
returns c = flags_told
