use Rattle.std.proofs.Common.{ℕ, sym, ap, subst, ◌∙◌}
use Rattle.host_trace.specs.Told.{Adds}
use Rattle.scgi_conn.specs.declared.conn.ScgiConn.{ScgiConn}
use Rattle.scgi_conn.specs.declared.stage.Stage.{Stage}
use Rattle.scgi_conn.specs.Parts.{acts_of_answer, acts_written_at}
use Rattle.scgi_conn.proofs.conn.ScgiConn.write.Goals as goal

pub returns-in-Answered-clause-told : goal.returns-in-Answered-clause-told
returns-in-Answered-clause-told g c =
    subst (λ (s : Stage). Adds (g.O.Outside.trace c.args.out.now) (acts_written_at c.write_answer.result s c.args.self.now) (g.O.Outside.trace c.write_answer.new.out)) (sym c.in-Answered.is ∙ c.take_stage.ensures.stage)
    (subst (λ (n : ℕ). Adds (g.O.Outside.trace c.args.out.now) (acts_of_answer c.write_answer.result c.in-Answered.bytes n) (g.O.Outside.trace c.write_answer.new.out)) (ap (λ (x : ScgiConn). x.flags.c) c.take_stage.ensures.rest)
    c.write_answer.ensures.told)
