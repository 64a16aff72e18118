-- The core is of the site.
use Rattle.std.proofs.Common.{subst}
use Rattle.host_core.specs.Stands.{Good}
use Rattle.host_loop.proofs.serve.serve_one.Goals as goal

pub returns-in-Ok-clause-good : goal.returns-in-Ok-clause-good
returns-in-Ok-clause-good g c = λ T told. subst (λ s. Good g.C.Connection.kind s T) c.in-Ok.ensures.site (c.take_turns.ensures.served.good T told)
