use Rattle.child_laws.proofs.MoveLaws.{moves_tell}
use Rattle.child_laws.proofs.move_laws.moves_tell.Goals as goal

pub returns : goal.returns
returns c = moves_tell
