use Rattle.std.proofs.Common.{◌∙◌}
use Rattle.many_conns.proofs.SettledLaws.{settled-is}
use Rattle.host_core.specs.Owners.{conns, served}
use Rattle.host_core.proofs.core_state.Core.all_settled.Goals as goal

pub returns : goal.returns
returns g c = λ T s.
    settled-is g.C.Connection.kind g.met.C.Connection.laws (served c.args.self.now) (conns c.args.self.now) T c.len.result s.lists (c.len.ensures ∙ c.requires.lists.len)
