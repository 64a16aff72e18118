-- What a pump was given.
use Rattle.std.specs.Prelude.{◌≡◌, List, []}
use Rattle.rtrb.specs.Ring.{sent, received, known_items, known_free, IsPair}
use Rattle.pipe_pump.specs.declared.from_pipe.PumpRing.{PumpRing}
use Rattle.pipe_pump.specs.declared.feed_ring.FeedRing.{FeedRing}
use Rattle.pump_pool.specs.declared.hand.Hand.{Hand}
use Rattle.pump_pool.specs.declared.outward.OutHands.{OutHands}
use Rattle.pump_pool.specs.declared.outward.OutJob.{OutJob}
use Rattle.pump_pool.specs.declared.outward.OutPump.{OutPump}
use Rattle.pump_pool.specs.declared.back.OutBack.{OutBack}
use Rattle.pump_pool.specs.declared.inward.InHands.{InHands}
use Rattle.pump_pool.specs.declared.inward.InJob.{InJob}
use Rattle.pump_pool.specs.declared.inward.InPump.{InPump}

module _ {P : Type 0} where
  -- the ring and the pipe that a pump was given
  abbrev pub ring_of : OutPump P → PumpRing
  ring_of pump = pump.ring.value

  abbrev pub output_of : OutPump P → P
  output_of pump = pump.pipe.value

  abbrev pub feed_of : InPump P → FeedRing
  feed_of pump = pump.ring.value

  abbrev pub input_of : InPump P → P
  input_of pump = pump.pipe.value

  -- what came back from it
  abbrev pub handed_out : OutPump P → List (Hand PumpRing P)
  handed_out pump = received pump.hand

  abbrev pub handed_in : InPump P → List (Hand FeedRing P)
  handed_in pump = received pump.hand

  -- what came back from it, as far as it was seen, and was not given yet
  abbrev pub waiting_out : OutPump P → List (Hand PumpRing P)
  waiting_out pump = known_items pump.hand

  abbrev pub waiting_in : InPump P → List (Hand FeedRing P)
  waiting_in pump = known_items pump.hand

  -- nothing was handed over yet, and there is room for a mark and an end
  abbrev pub IsUnusedOut : OutHands P → Type 0
  IsUnusedOut hands = (sent hands.giver ≡ []) × (known_free hands.giver ≡ 2)

  abbrev pub IsUnusedIn : InHands P → Type 0
  IsUnusedIn hands = (sent hands.giver ≡ []) × (known_free hands.giver ≡ 2)

  -- what this job hands over comes back at this pump
  abbrev pub IsOutWay : OutJob P → OutPump P → Type 0
  IsOutWay job pump = IsPair job.back.hand pump.hand

  abbrev pub IsOutReturn : OutBack P → OutPump P → Type 0
  IsOutReturn back pump = IsPair back.hand pump.hand

  abbrev pub IsInWay : InJob P → InPump P → Type 0
  IsInWay job pump = IsPair job.hand pump.hand
