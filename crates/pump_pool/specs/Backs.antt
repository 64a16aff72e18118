-- The ring and the pipe of a pump, where its end is handed over.
use Rattle.pipe_pump.specs.declared.from_pipe.PumpRing.{PumpRing}
use Rattle.pump_pool.specs.declared.back.OutBack.{OutBack}

module _ {P : Type 0} where
  abbrev pub back_ring : OutBack P → PumpRing
  back_ring back = back.ring.value

  abbrev pub back_pipe : OutBack P → P
  back_pipe back = back.pipe.value
