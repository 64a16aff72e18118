use denote.Param.Send.{IsSend, sendable}
use Rattle.std.proofs.Crossing.{crosses}
use Rattle.pipe_pump.proofs.Crosses.{feed_ring_send}
use Rattle.edge_rows.specs.contracts.tests.pumps.relay.Feeding as Feeding
use Rattle.edge_rows.proofs.tests.pumps.relay.feed_through.Goals as goal

feeding_send : IsSend Feeding.the_field.row
feeding_send = let r = feed_ring_send in search (sendable, crosses) depth 20

pub start_task-requires-send-T : goal.start_task-requires-send-T
start_task-requires-send-T g c κs within = let w = feeding_send in search (sendable, crosses) depth 20
