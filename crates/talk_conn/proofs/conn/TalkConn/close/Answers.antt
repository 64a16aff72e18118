use Rattle.std.proofs.Common.{Option, Some, sym, ap, ◌∙◌}
use Rattle.host_trace.specs.declared.items.Why.{Why}
use Rattle.conn_flags.specs.View.{View as Flags}
use Rattle.talk_core.specs.View.{View as Talk}
use Rattle.talk_conn.specs.Parts.{shut_conn}
use Rattle.talk_conn.proofs.conn.TalkConn.close.Goals as goal

pub returns-in-Some-clause-value : goal.returns-in-Some-clause-value
returns-in-Some-clause-value g c =
    ap (λ (m : Flags). record c.args.self.now { flags = m; talk = c.shut-in-Some.new.self }) (c.shut.ensures c.in-Some.why)
    ∙ (ap (λ (t : Talk). record (shut_conn (Some c.in-Some.why) c.args.self.now) { talk = t }) c.shut-in-Some.ensures
    ∙ ap (λ (r : Option Why). shut_conn r c.args.self.now) (sym c.in-Some.is ∙ c.why.ensures))
