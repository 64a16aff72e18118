use Rattle.conn_laws.proofs.FrontLaws.{continues_known}
use Rattle.conn_laws.proofs.front_laws.continues_are_known.Goals as goal

pub returns : goal.returns
returns c = continues_known
