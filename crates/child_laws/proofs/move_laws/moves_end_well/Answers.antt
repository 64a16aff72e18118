use Rattle.child_laws.proofs.MoveLaws.{moves_end_well}
use Rattle.child_laws.proofs.move_laws.moves_end_well.Goals as goal

pub returns : goal.returns
returns c = moves_end_well
