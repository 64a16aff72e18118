use Rattle.std.proofs.Common.{◌≡◌, ◌≤◌, ◌<◌, ◌^◌, length, vec_len}
use Rattle.std.specs.Io.KnownBytes.{Consumes}
use Rattle.rtrb.specs.Ring.{sent, SameProducer}
use Rattle.pipe_pump.proofs.from_pipe.pump_out.Given as goal

abbrev pub invariant-loop : goal.invariant-loop
invariant-loop g l =
    (goal.iterator-loop g).can_next l.iterator' × (goal.iterator-loop g).is_finite l.iterator'
    × SameProducer l.fn.ring.producer l.producer
    × Consumes (g.P.PipeIn.left l.fn.pipe) (g.P.PipeIn.left l.pipe) (sent l.producer)
    × (g.P.PipeIn.faults l.fn.pipe ≤ g.P.PipeIn.faults l.pipe)
    × (length (sent l.producer) ≡ l.total)
    × (l.total < 2 ^ 62)
    × (0 < vec_len l.buffer)
