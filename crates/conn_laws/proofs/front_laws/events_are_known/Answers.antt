use Rattle.conn_laws.proofs.FrontLaws.{events_known}
use Rattle.conn_laws.proofs.front_laws.events_are_known.Goals as goal

pub returns : goal.returns
returns c = events_known
