use Rattle.std.proofs.Common.{◌∙◌, sym, ap}
use Rattle.std.specs.Prelude.{nat_le}
use Rattle.many_conns.proofs.SlotLaws.{slots-are}
use Rattle.host_core.specs.Owners.{conns, most_of, served}
use Rattle.host_core.proofs.core_state.Core.is_full.Goals as goal

pub returns-clause-slots : goal.returns-clause-slots
returns-clause-slots g c = λ T s.
    ap (nat_le (most_of c.args.self.now)) (c.len.ensures ∙ sym (slots-are g.C.Connection.kind g.met.C.Connection.laws (served c.args.self.now) (conns c.args.self.now) T s.lists c.requires.lists.rising s.held))
