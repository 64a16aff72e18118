-- The rows go on with the event.
use Rattle.host_trace.specs.declared.items.Item.TheVariants.{In}
use Rattle.told_outside.specs.ChildRows.{lives}
use Rattle.told_outside.proofs.RowLaws.{kept_row}
use Rattle.told_outside.proofs.ChildRowLaws.{children_on, children_off}
use Rattle.told_outside.proofs.child_rows.ChildRows.hear.Goals as goal

pub returns-in_default : goal.returns-in_default
returns-in_default c = λ T tie. children_off c.args.self.now T (In c.args.event.now) tie c.in_default.ensures

pub returns : goal.returns
returns c = λ T tie.
    children_on c.args.self.now _ T (In c.args.event.now) c.in-Some.k c.kept-row.result tie c.put.ensures.puts c.in-Some.ensures
    (kept_row lives _ c.heard_row.result c.kept-row.result c.kept-row.ensures (c.heard_row.ensures T tie))
    c.past-self.ensures
