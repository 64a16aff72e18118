use Rattle.std.proofs.Common.{ap}
use Rattle.conn_flags.specs.View.{View as Flags}
use Rattle.http_conn.proofs.greet.upgrade.Goals as goal

pub returns-in-Done-clause-value : goal.returns-in-Done-clause-value
returns-in-Done-clause-value g c = ap (λ (m : Flags). record c.args.conn.now { flags = m }) (c.upgrade.ensures c.args.rest)
