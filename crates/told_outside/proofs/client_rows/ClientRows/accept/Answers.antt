-- A row is begun for the connection, or it is the orphan.
use Rattle.std.proofs.Common.{◌∙◌}
use Rattle.host_trace.specs.declared.items.Item.TheVariants.{In}
use Rattle.told_outside.proofs.ClientRowLaws.{clients_off, clients_accept, accepted_names}
use Rattle.told_outside.proofs.client_rows.ClientRows.accept.Goals as goal

pub returns-in_default : goal.returns-in_default
returns-in_default c = λ T tie. clients_off c.args.self.now T (In c.args.event.now) tie (accepted_names (In c.args.event.now) c.requires)

pub returns : goal.returns
returns c = λ T tie.
    clients_accept c.args.self.now _ T (In c.args.event.now) tie c.requires c.begin.ensures.rows c.begin.ensures.orphan c.begin.ensures.same.0
    (c.begin.ensures.same.1 ∙ c.in-Some.ensures.1)
