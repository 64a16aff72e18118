use Rattle.child_laws.proofs.MoveLaws.{moves_begin}
use Rattle.child_laws.proofs.move_laws.events_begin.Goals as goal

pub returns : goal.returns
returns c = moves_begin
