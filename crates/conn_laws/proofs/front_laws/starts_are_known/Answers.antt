use Rattle.conn_laws.proofs.FrontLaws.{starts_known}
use Rattle.conn_laws.proofs.front_laws.starts_are_known.Goals as goal

pub returns : goal.returns
returns c = starts_known
