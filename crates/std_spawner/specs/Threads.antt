-- The threads that wait for a pump.
use Rattle.std.specs.Prelude.{◌≡◌, Option, Some, None}
use Rattle.std.specs.Arc.{arc_value}
use Rattle.pump_pool.specs.Workers.{given, given_to, HasTaken}
use Rattle.pump_pool.specs.declared.worker.Busy.{Busy}
use Rattle.pump_pool.specs.declared.worker.Worker.{Worker}
use Rattle.std_spawner.specs.declared.job.PumpJob.{PumpJob}
use Rattle.std_spawner.specs.declared.threads.ThreadPool.{ThreadPool}

-- they share what they keep
abbrev pub IsSamePool : {T : Type 0} → ThreadPool T → ThreadPool T → Type 0
IsSamePool pool other = arc_value other.shared ≡ arc_value pool.shared

-- the same thread, which waits for another job; and nothing only of a thread that is not known to have taken its last one
abbrev pub GivesThread : Busy PumpJob → Option (Worker PumpJob) → Type 0
GivesThread busy None = ¬ HasTaken busy
GivesThread busy (Some worker) = given worker ≡ given_to busy
