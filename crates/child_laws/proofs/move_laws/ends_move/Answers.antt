use Rattle.child_laws.proofs.MoveLaws.{ends_move}
use Rattle.child_laws.proofs.move_laws.ends_move.Goals as goal

pub returns : goal.returns
returns c = ends_move
