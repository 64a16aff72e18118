use Rattle.child_laws.proofs.MoveLaws.{acts_move}
use Rattle.child_laws.proofs.move_laws.acts_move.Goals as goal

pub returns : goal.returns
returns c = acts_move
