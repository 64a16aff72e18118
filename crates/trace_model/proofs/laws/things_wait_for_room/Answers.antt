use Rattle.trace_model.proofs.WaitLaws.{waits_for_room}
use Rattle.trace_model.proofs.laws.things_wait_for_room.Goals as goal

pub returns : goal.returns
returns c = waits_for_room
