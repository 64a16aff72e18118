-- The rows go on with the act.
use Rattle.std.proofs.Common.{refl, sym, ◌∙◌}
use Rattle.host_trace.specs.declared.items.Item.TheVariants.{Out}
use Rattle.trace_tallies.specs.ClientTallies.{stays_open}
use Rattle.told_outside.proofs.RowLaws.{kept_row}
use Rattle.told_outside.proofs.ClientRowLaws.{clients_on, clients_off, orphan_stays, not_shut}
use Rattle.told_outside.proofs.client_rows.ClientRows.ask.Goals as goal

pub returns-in_default : goal.returns-in_default
returns-in_default c = λ T tie. clients_off c.args.self.now T (Out c.args.act.now) tie c.in_default.ensures

pub returns : goal.returns
returns c = λ T tie.
    clients_on c.args.self.now _ T (Out c.args.act.now) c.in-Some.c c.kept-row.result tie c.put.ensures.puts c.in-Some.ensures
    (kept_row stays_open _ c.asked_row.result c.kept-row.result c.kept-row.ensures (c.asked_row.ensures T tie))
    c.past-self.ensures refl
    (λ q e.
    let o = orphan_stays c.args.self.now.orphan c.is_shut.result c.in-Some.c q (sym c.orphan_after-self.ensures ∙ e) in
    (o.0, not_shut (Out c.args.act.now) c.in-Some.c q c.is_shut.result c.is_shut.ensures c.in-Some.ensures o.1))
