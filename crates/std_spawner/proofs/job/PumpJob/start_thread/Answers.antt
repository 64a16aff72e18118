use denote.Param.Send.{sendable}
use Rattle.std.proofs.Crossing.{crosses}
use Rattle.std_spawner.proofs.Crosses.{job_send}
use Rattle.std_spawner.proofs.job.PumpJob.start_thread.Goals as goal

pub start_thread-requires-send-J : goal.start_thread-requires-send-J
start_thread-requires-send-J g c κs within = search (sendable, crosses, job_send) depth 20
