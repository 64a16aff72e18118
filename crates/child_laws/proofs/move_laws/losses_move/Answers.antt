use Rattle.child_laws.proofs.MoveLaws.{losses_move}
use Rattle.child_laws.proofs.move_laws.losses_move.Goals as goal

pub returns : goal.returns
returns c = losses_move
