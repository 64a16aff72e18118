-- What may cross threads.
use denote.Param.Send.{IsSend, sendable}
use Rattle.std.proofs.Crossing.{crosses}
use Rattle.rtrb.proofs.end.End.TheSendSync as end
use Rattle.pipe_pump.specs.contracts.hand.Hand as Hand
use Rattle.pipe_pump.specs.contracts.from_pipe.PumpRing as PumpRing
use Rattle.pipe_pump.specs.contracts.feed_ring.FeedRing as FeedRing
use Rattle.pipe_pump.proofs.from_pipe.PumpRing.TheSendSync as pump_ring
use Rattle.pipe_pump.proofs.feed_ring.Source.TheSendSync as source

pub hand_send : IsSend Hand.the_field.row
hand_send = search (sendable, crosses, end.the_send) depth 20

pub pump_ring_send : IsSend PumpRing.the_field.row
pump_ring_send = pump_ring.the_field_send

pub feed_ring_send : IsSend FeedRing.the_field.row
feed_ring_send = let h = hand_send in let r = source.the_field_send in search (sendable, crosses, end.the_send) depth 20
