-- The pump of a child's input.
use Rattle.std.specs.Prelude.{◌≡◌, true, Option, Some, None, is_none}
use Rattle.pipe_pump.specs.declared.ends.PumpDone.{PumpDone}
use Rattle.pipe_pump.specs.declared.ends.PumpEnd.TheVariants.{AtEnd}
use Rattle.pipe_pump.specs.declared.feed_ring.FeedRing.{FeedRing}
use Rattle.pipe_pump.specs.Rings.{IsFeedEndOf, IsWholeFeed}
use Rattle.std_spawner.specs.declared.pipes.ChildInput.{ChildInput}
use Rattle.std_spawner.specs.declared.input.Input.{Input}
use Rattle.std_spawner.specs.declared.input.Input.TheVariants.{Held, Running, Ended}
use Rattle.std_spawner.specs.declared.job.PumpJob.{PumpJob}
use Rattle.std_spawner.specs.Threads.{GivesThread}
use Rattle.pump_pool.specs.declared.worker.Worker.{Worker}

-- the ring that the pump was given, until its end was given up
abbrev pub feed_mark : Input → Option FeedRing
feed_mark (Held held) = Some held.mark.value
feed_mark (Running running) = Some running.mark.value
feed_mark (Ended thread) = None

-- what is left of the pump's thread: the one that it has, if it has one
abbrev pub LeavesThread : Input → Option (Worker PumpJob) → Type 0
LeavesThread (Held held) left = left ≡ None
LeavesThread (Running running) left = GivesThread running.thread left
LeavesThread (Ended thread) left = left ≡ thread

-- what a pump on this ring left: a clean end only where all that was fed was taken, and the input is closed
pub record IsInputEnd (feed : FeedRing) (done : PumpDone ChildInput) : Type 0 where
  pub of_feed : IsFeedEndOf feed done.ring
  pub whole : done.end ≡ AtEnd → IsWholeFeed done.ring
  pub closed : done.end ≡ AtEnd → is_none done.pipe.side ≡ true

abbrev pub IsInputEndOf : Option FeedRing → PumpDone ChildInput → Type 0
IsInputEndOf None done = ⊥
IsInputEndOf (Some feed) done = IsInputEnd feed done
