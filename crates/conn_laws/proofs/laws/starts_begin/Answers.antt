use Rattle.conn_laws.proofs.StartLaws.{start_begins}
use Rattle.conn_laws.proofs.laws.starts_begin.Goals as goal

pub returns : goal.returns
returns c = start_begins
