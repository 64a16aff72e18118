use Rattle.conn_laws.proofs.FrontLaws.{next_known}
use Rattle.conn_laws.proofs.front_laws.next_are_known.Goals as goal

pub returns : goal.returns
returns c = next_known
