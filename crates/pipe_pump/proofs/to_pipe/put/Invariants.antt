use Rattle.std.proofs.Common.{◌≤◌, ◌-◌, length, take}
use Rattle.std.specs.Io.KnownBytes.{Appends}
use Rattle.pipe_pump.proofs.to_pipe.put.Given as goal

abbrev pub invariant-loop-done : goal.invariant-loop-done
invariant-loop-done g l =
    (l.done ≤ length l.piece)
    × Appends (g.P.PipeOut.taken l.initial.pipe) (g.P.PipeOut.taken l.pipe) (take l.done l.piece)
    × (g.P.PipeOut.faults l.initial.pipe ≤ g.P.PipeOut.faults l.pipe)

abbrev pub decreases-loop-done : goal.decreases-loop-done
decreases-loop-done g l = length l.piece - l.done
