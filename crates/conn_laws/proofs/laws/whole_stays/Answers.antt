use Rattle.conn_laws.proofs.EndLaws.{whole_stays}
use Rattle.conn_laws.proofs.laws.whole_stays.Goals as goal

pub returns : goal.returns
returns c = whole_stays
