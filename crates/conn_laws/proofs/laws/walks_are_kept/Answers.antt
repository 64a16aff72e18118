use Rattle.conn_laws.proofs.HopLaws.{reaches_still}
use Rattle.conn_laws.proofs.laws.walks_are_kept.Goals as goal

pub returns : goal.returns
returns c = reaches_still
