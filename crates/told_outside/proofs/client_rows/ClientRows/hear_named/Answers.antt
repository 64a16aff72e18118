-- The rows go on with the event.
use Rattle.std.proofs.Common.{refl}
use Rattle.host_trace.specs.declared.items.Item.TheVariants.{In}
use Rattle.trace_tallies.specs.ClientTallies.{stays_open}
use Rattle.told_outside.proofs.RowLaws.{kept_row}
use Rattle.told_outside.proofs.ClientRowLaws.{clients_on, clients_off}
use Rattle.told_outside.proofs.client_rows.ClientRows.hear_named.Goals as goal

pub returns-in_default : goal.returns-in_default
returns-in_default c = λ T tie. clients_off c.args.self.now T (In c.args.event.now) tie c.in_default.ensures

pub returns : goal.returns
returns c = λ T tie.
    clients_on c.args.self.now _ T (In c.args.event.now) c.in-Some.c c.kept-row.result tie c.put.ensures.puts c.in-Some.ensures
    (kept_row stays_open _ c.heard_row.result c.kept-row.result c.kept-row.ensures (c.heard_row.ensures T tie))
    c.past-self.ensures refl (λ q e. (e, refl))
