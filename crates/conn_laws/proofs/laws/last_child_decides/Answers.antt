use Rattle.conn_laws.proofs.EndLaws.{last_decides}
use Rattle.conn_laws.proofs.laws.last_child_decides.Goals as goal

pub returns : goal.returns
returns c = last_decides
