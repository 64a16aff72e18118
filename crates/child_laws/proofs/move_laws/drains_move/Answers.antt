use Rattle.child_laws.proofs.MoveLaws.{drains_move}
use Rattle.child_laws.proofs.move_laws.drains_move.Goals as goal

pub returns : goal.returns
returns c = drains_move
