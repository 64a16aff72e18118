-- What may cross threads.
use denote.RattleType.{RattleType}
use denote.Param.Send.{IsSend, sendable}
use Rattle.std.proofs.Crossing.{crosses}
use Rattle.rtrb.proofs.end.End.TheSendSync as end
use Rattle.pipe_pump.proofs.Crosses.{pump_ring_send, feed_ring_send}
use Rattle.pipe_pump.specs.declared.pipe.PipeIn as PipeIn
use Rattle.pipe_pump.specs.declared.pipe.PipeOut as PipeOut
use Rattle.pipe_pump.specs.contracts.ends.PumpDone as PumpDone
use Rattle.pipe_pump.specs.contracts.ends.RingEnd as RingEnd
use Rattle.pump_pool.specs.contracts.hand.Hand as Hand
use Rattle.pump_pool.specs.contracts.hand.Mark as Mark
use Rattle.pump_pool.specs.contracts.outward.OutJob as OutJob
use Rattle.pump_pool.specs.contracts.back.OutBack as OutBack
use Rattle.pump_pool.specs.contracts.inward.InJob as InJob

pub ring_end_send : IsSend RingEnd.the_field.row
ring_end_send = search (sendable, crosses, end.the_send) depth 20

pub done_send : (P : RattleType) → IsSend P → IsSend (PumpDone.the_field P).row
done_send P s = let r = ring_end_send in search (sendable, crosses) depth 20

pub mark_send : (G P : RattleType) → IsSend G → IsSend P → IsSend (Mark.the_field G P).row
mark_send G P r s = search (sendable, crosses) depth 20

pub hand_send : (G P : RattleType) → IsSend G → IsSend P → IsSend (Hand.the_field G P).row
hand_send G P r s = let d = done_send P s in let m = mark_send G P r s in search (sendable, crosses) depth 20

pub out_back_send : (P : RattleType) (g : PipeIn.Ghosts P.Denot) → IsSend P → IsSend (OutBack.the_field P g).row
out_back_send P g s = search (sendable, crosses, end.the_send, hand_send, pump_ring_send) depth 20

pub out_job_send : (P : RattleType) (g : PipeIn.Ghosts P.Denot) → IsSend P → IsSend (OutJob.the_field P g).row
out_job_send P g s = search (sendable, crosses, out_back_send, pump_ring_send) depth 20

pub in_job_send : (P : RattleType) (g : PipeOut.Ghosts P.Denot) → IsSend P → IsSend (InJob.the_field P g).row
in_job_send P g s = search (sendable, crosses, end.the_send, hand_send, feed_ring_send) depth 20
