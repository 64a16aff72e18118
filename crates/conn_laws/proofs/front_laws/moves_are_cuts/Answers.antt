use Rattle.conn_laws.proofs.MoveLaws.{moves_cut}
use Rattle.conn_laws.proofs.front_laws.moves_are_cuts.Goals as goal

pub returns : goal.returns
returns c = moves_cut
