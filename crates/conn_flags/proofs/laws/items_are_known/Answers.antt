use Rattle.conn_flags.proofs.KnowsLaws.{known_next}
use Rattle.conn_flags.proofs.laws.items_are_known.Goals as goal

pub returns : goal.returns
returns c = known_next
