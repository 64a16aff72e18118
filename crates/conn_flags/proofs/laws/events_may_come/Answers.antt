use Rattle.conn_flags.proofs.KnowsLaws.{events_admitted}
use Rattle.conn_flags.proofs.laws.events_may_come.Goals as goal

pub returns : goal.returns
returns c = events_admitted
