use Rattle.child_laws.proofs.MoveLaws.{starts_move}
use Rattle.child_laws.proofs.move_laws.starts_move.Goals as goal

pub returns : goal.returns
returns c = starts_move
