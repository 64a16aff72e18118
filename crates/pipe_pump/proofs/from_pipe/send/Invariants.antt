use Rattle.std.proofs.Common.{◌≡◌, ◌++◌, ◌≤◌, []}
use Rattle.std.specs.Io.KnownBytes.{Consumes}
use Rattle.rtrb.specs.Ring.{sent, SameProducer}
use Rattle.pipe_pump.specs.Moved.{KnownEnd}
use Rattle.pipe_pump.proofs.from_pipe.send.Given as goal

abbrev pub invariant-loop : goal.invariant-loop
invariant-loop g l =
    (goal.iterator-loop g).can_next l.iterator' × (goal.iterator-loop g).is_finite l.iterator'
    × SameProducer l.initial.producer l.producer
    × (sent l.producer ++ l.rest ≡ sent l.initial.producer ++ l.initial.piece)
    × Consumes (g.P.PipeIn.left l.initial.pipe) (g.P.PipeIn.left l.pipe) []
    × (g.P.PipeIn.faults l.initial.pipe ≤ g.P.PipeIn.faults l.pipe)
    × KnownEnd l.is_last (g.P.PipeIn.left l.pipe) (g.P.PipeIn.faults l.initial.pipe) (g.P.PipeIn.faults l.pipe) l.ended
