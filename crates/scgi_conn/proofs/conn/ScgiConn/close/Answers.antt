use Rattle.std.proofs.Common.{Option, sym, ap, ◌∙◌}
use Rattle.host_trace.specs.declared.items.Why.{Why}
use Rattle.conn_flags.specs.View.{View as Flags}
use Rattle.scgi_conn.specs.Parts.{shut_conn}
use Rattle.scgi_conn.proofs.conn.ScgiConn.close.Goals as goal

pub returns-in-Some-clause-value : goal.returns-in-Some-clause-value
returns-in-Some-clause-value g c =
    ap (λ (m : Flags). record c.args.self.now { flags = m }) (c.shut.ensures c.in-Some.why)
    ∙ ap (λ (r : Option Why). shut_conn r c.args.self.now) (sym c.in-Some.is ∙ c.why.ensures)
