use Rattle.child_laws.proofs.MoveLaws.{serves_move}
use Rattle.child_laws.proofs.move_laws.serves_move.Goals as goal

pub returns : goal.returns
returns c = serves_move
