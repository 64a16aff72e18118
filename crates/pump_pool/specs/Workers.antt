-- Words on a worker and the place of its thread.
use Rattle.std.specs.Prelude.{◌≡◌, ◌<◌, List}
use Rattle.std.specs.Arc.{arc_value}
use Rattle.rtrb.specs.Ring.{sent, known_free, IsPair}
use Rattle.pump_pool.specs.declared.worker.Worker.{Worker}
use Rattle.pump_pool.specs.declared.worker.Busy.{Busy}
use Rattle.pump_pool.specs.declared.worker.Station.{Station}

module _ {J : Type 0} where
  -- all jobs that a thread was given
  abbrev pub given : Worker J → List J
  given worker = sent worker.reins.jobs

  abbrev pub given_to : Busy J → List J
  given_to busy = sent busy.reins.jobs

  -- its thread is known to have taken its last job
  abbrev pub HasTaken : Busy J → Type 0
  HasTaken busy = 0 < known_free busy.reins.jobs

  -- the jobs of this worker come in here
  abbrev pub IsPlaceOf : Station J → Worker J → Type 0
  IsPlaceOf station worker = IsPair worker.reins.jobs station.jobs

  -- the worker wakes whoever sleeps here, and hears that a job ended here
  abbrev pub WakesAt : Station J → Worker J → Type 0
  WakesAt station worker =
      (arc_value worker.reins.parker.state ≡ arc_value station.parker.unparker.state) × (arc_value worker.reins.rests ≡ arc_value station.rests)
