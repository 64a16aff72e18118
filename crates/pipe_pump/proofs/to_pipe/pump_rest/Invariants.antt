use Rattle.std.proofs.Common.{◌≡◌, ◌≤◌, ◌<◌, ◌^◌, length, vec_len}
use Rattle.rtrb.specs.Ring.{received, SameConsumer, IsPair}
use Rattle.pipe_pump.specs.Moved.{Moves}
use Rattle.pipe_pump.proofs.to_pipe.pump_rest.Given as goal

abbrev pub invariant-loop : goal.invariant-loop
invariant-loop g l =
    (goal.iterator-loop g).can_next l.iterator' × (goal.iterator-loop g).is_finite l.iterator'
    × SameConsumer l.initial.consumer l.consumer
    × IsPair l.producer l.consumer
    × Moves (g.P.PipeOut.taken l.initial.pipe) (g.P.PipeOut.taken l.pipe) (received l.initial.consumer) (received l.consumer)
    × (g.P.PipeOut.faults l.initial.pipe ≤ g.P.PipeOut.faults l.pipe)
    × (length (received l.consumer) ≡ l.total)
    × (l.total < 2 ^ 62)
    × (0 < vec_len l.buffer)
