use Rattle.conn_flags.proofs.KnowsLaws.{known_all}
use Rattle.conn_flags.proofs.laws.acts_are_known.Goals as goal

pub returns : goal.returns
returns c = known_all
