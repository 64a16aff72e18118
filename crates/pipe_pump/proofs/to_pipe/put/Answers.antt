use Rattle.pipe_pump.proofs.Fronts.{took_all}
use Rattle.pipe_pump.proofs.to_pipe.put.Goals as goal

pub returns-clause-all : goal.returns-clause-all
returns-clause-all g c =
    took_all (g.P.PipeOut.taken c.args.pipe.now) (g.P.PipeOut.taken c.loop-done.pipe) c.args.piece.now c.loop-done.done c.loop-done.invariant.0 c.loop-done-test.false c.loop-done.invariant.1
