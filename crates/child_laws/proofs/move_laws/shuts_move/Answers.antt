use Rattle.child_laws.proofs.MoveLaws.{shuts_move}
use Rattle.child_laws.proofs.move_laws.shuts_move.Goals as goal

pub returns : goal.returns
returns c = shuts_move
