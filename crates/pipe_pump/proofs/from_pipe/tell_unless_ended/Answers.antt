use Rattle.std.proofs.Common.{subst}
use Rattle.pipe_pump.specs.Moved.{KnownEnd}
use Rattle.pipe_pump.proofs.Gone.{known_later}
use Rattle.pipe_pump.proofs.from_pipe.tell_unless_ended.Goals as goal

pub returns-in-None-clause-ends : goal.returns-in-None-clause-ends
returns-in-None-clause-ends g c =
    λ is_last before h k. known_later c.tell.result is_last (g.P.PipeIn.left c.tell.new.pipe) before (g.P.PipeIn.faults c.args.pipe.now) (g.P.PipeIn.faults c.tell.new.pipe) c.tell.ensures.ends (subst (λ e. KnownEnd is_last (g.P.PipeIn.left c.args.pipe.now) before (g.P.PipeIn.faults c.args.pipe.now) e) c.in-None.is k) h
