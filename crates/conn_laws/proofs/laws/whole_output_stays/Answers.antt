use Rattle.conn_laws.proofs.StartLaws.{output_stays}
use Rattle.conn_laws.proofs.laws.whole_output_stays.Goals as goal

pub returns : goal.returns
returns c = output_stays
