use denote.Param.Send.{sendable}
use Rattle.std.proofs.Crossing.{crosses}
use Rattle.pump_pool.proofs.Crosses.{out_job_send}
use Rattle.edge_rows.proofs.tests.once.two_threads.Goals as goal

pub start_thread-requires-send-J : goal.start_thread-requires-send-J
start_thread-requires-send-J g c κs within = search (sendable, crosses, out_job_send) depth 20
