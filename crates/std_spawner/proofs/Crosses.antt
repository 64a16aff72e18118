-- What may cross threads.
use denote.RattleType.{RattleType}
use denote.Param.Send.{IsSend, sendable}
use Rattle.std.proofs.Crossing.{crosses}
use Rattle.std_collections.proofs.Crosses as maps
use Rattle.rtrb.proofs.end.End.TheSendSync as end
use Rattle.pipe_pump.specs.declared.pipe.PipeIn as PipeIn
use Rattle.pipe_pump.specs.declared.pipe.PipeOut as PipeOut
use Rattle.pipe_pump.proofs.Crosses.{pump_ring_send, feed_ring_send}
use Rattle.pump_pool.proofs.Crosses.{hand_send, out_job_send, out_back_send, in_job_send}
use Rattle.pump_pool.proofs.worker.Worker.TheSendSync as worker
use Rattle.pump_pool.proofs.worker.Busy.TheSendSync as busy
use Rattle.pump_pool.specs.contracts.outward.OutPump as OutPump
use Rattle.pump_pool.specs.contracts.inward.InPump as InPump
use Rattle.pump_pool.specs.contracts.inward.InHands as InHands
use Rattle.loop_bell.proofs.Crosses.{bell_send}
use Rattle.std_spawner.specs.contracts.pipes.BelledPipe as BelledPipe
use Rattle.std_spawner.specs.contracts.pipes.ChildInput as ChildInput
use Rattle.std_spawner.specs.contracts.job.Task as Task
use Rattle.std_spawner.specs.contracts.news.Started as Started
use Rattle.std_spawner.specs.contracts.news.News as News
use Rattle.std_spawner.specs.contracts.news.Teller as Teller
use Rattle.std_spawner.specs.contracts.news.Listener as Listener
use Rattle.std_spawner.specs.contracts.start.OutputJob as OutputJob
use Rattle.std_spawner.specs.contracts.start.StartJob as StartJob
use Rattle.std_spawner.specs.contracts.cell.Cell as Cell
use Rattle.std_spawner.specs.contracts.cell.Shared as Shared
use Rattle.std_spawner.specs.contracts.job.PumpJob as PumpJob
use Rattle.std_spawner.specs.contracts.program.Program as Program
use Rattle.std_spawner.specs.contracts.input.Held as Held
use Rattle.std_spawner.specs.contracts.input.Running as Running
use Rattle.std_spawner.specs.contracts.input.Input as Input
use Rattle.std_spawner.specs.contracts.kid.StdKid as StdKid
use Rattle.std_spawner.specs.contracts.spawner.StdSpawner as StdSpawner
use Rattle.std_spawner.specs.contracts.threads.IdleThreads as IdleThreads
use Rattle.std_spawner.specs.contracts.threads.ThreadPool as ThreadPool

pub belled_send : (P : RattleType) → IsSend P → IsSend (BelledPipe.the_field P).row
belled_send P s = search (sendable, crosses, bell_send) depth 20

pub input_send : IsSend ChildInput.the_field.row
input_send = search (sendable, crosses, bell_send) depth 20

pub program_send : IsSend Program.the_field.row
program_send = search (sendable, crosses) depth 20

pub started_send : IsSend Started.the_field.row
started_send = search (sendable, crosses, program_send) depth 20

pub news_send : IsSend News.the_field.row
news_send = search (sendable, crosses, started_send) depth 20

pub teller_send : IsSend Teller.the_field.row
teller_send = search (sendable, crosses, end.the_send, news_send) depth 20

pub listener_send : IsSend Listener.the_field.row
listener_send = search (sendable, crosses, end.the_send, news_send) depth 20

cell_send : IsSend Cell.the_field.row
cell_send = search (sendable, crosses, program_send) depth 20

pub shared_send : IsSend Shared.the_field.row
shared_send = search (sendable, crosses, cell_send) depth 20

pub output_job_send : IsSend OutputJob.the_field.row
output_job_send = search (sendable, crosses, out_back_send, belled_send, pump_ring_send) depth 20

pub start_job_send : IsSend StartJob.the_field.row
start_job_send = search (sendable, crosses, teller_send, shared_send, output_job_send, bell_send, maps.BTreeMap-send) depth 40 fits 20000

pub task_send : IsSend Task.the_field.row
task_send = search (sendable, crosses, start_job_send, out_job_send, in_job_send, belled_send, input_send) depth 20

pub job_send : IsSend PumpJob.the_field.row
job_send = search (sendable, crosses, task_send, bell_send) depth 20

-- ---- what a loop keeps of its children

pub out_pump_send : (P : RattleType) (g : PipeIn.Ghosts P.Denot) → IsSend P → IsSend (OutPump.the_field P g).row
out_pump_send P g s = search (sendable, crosses, end.the_send, hand_send, pump_ring_send) depth 20

in_pump_send : (P : RattleType) (g : PipeOut.Ghosts P.Denot) → IsSend P → IsSend (InPump.the_field P g).row
in_pump_send P g s = search (sendable, crosses, end.the_send, hand_send, feed_ring_send) depth 20

in_hands_send : (P : RattleType) (g : PipeOut.Ghosts P.Denot) → IsSend P → IsSend (InHands.the_field P g).row
in_hands_send P g s = search (sendable, crosses, end.the_send, hand_send, feed_ring_send) depth 20

held_send : IsSend Held.the_field.row
held_send = search (sendable, crosses, in_hands_send, feed_ring_send, input_send, bell_send) depth 20

running_send : IsSend Running.the_field.row
running_send = search (sendable, crosses, in_pump_send, input_send, busy.the_field_send, job_send) depth 20

kid_input_send : IsSend Input.the_field.row
kid_input_send = search (sendable, crosses, held_send, running_send, worker.the_field_send, job_send) depth 20

idle_send : (T : RattleType) → IsSend T → IsSend (IdleThreads.the_field T).row
idle_send T s = search (sendable, crosses, worker.the_field_send, job_send) depth 20

pool_send : (T : RattleType) → IsSend T → IsSend (ThreadPool.the_field T).row
pool_send T s = search (sendable, crosses, idle_send) depth 20

pub kid_send : (R T : RattleType) → IsSend R → IsSend T → IsSend (StdKid.the_field R T).row
kid_send R T s t = search (sendable, crosses, out_pump_send, belled_send, busy.the_field_send, job_send, kid_input_send, listener_send, shared_send, program_send, feed_ring_send, pool_send) depth 40 fits 20000

pub spawner_send : (R T : RattleType) → IsSend R → IsSend T → IsSend (StdSpawner.the_field R T).row
spawner_send R T s t = search (sendable, crosses, bell_send, busy.the_field_send, job_send, pool_send) depth 20
