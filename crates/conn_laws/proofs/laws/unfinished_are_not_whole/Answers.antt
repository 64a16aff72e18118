use Rattle.conn_laws.proofs.EndLaws.{not_whole}
use Rattle.conn_laws.proofs.laws.unfinished_are_not_whole.Goals as goal

pub returns : goal.returns
returns c = not_whole
