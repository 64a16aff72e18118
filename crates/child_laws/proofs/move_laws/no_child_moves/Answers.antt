use Rattle.child_laws.proofs.MoveLaws.{no_child_moves}
use Rattle.child_laws.proofs.move_laws.no_child_moves.Goals as goal

pub returns : goal.returns
returns c = no_child_moves
