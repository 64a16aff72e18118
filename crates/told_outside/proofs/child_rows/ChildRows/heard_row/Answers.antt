-- A row goes on with the event.
use Rattle.std.proofs.Common.{sym, ◌∙◌}
use Rattle.told_outside.proofs.child_rows.ChildRows.heard_row.Goals as goal

pub returns-in-Some : goal.returns-in-Some
returns-in-Some c = λ T tie. c.heard.ensures.counted T (tie.each c.args.k c.in-Some.tally (sym c.row.ensures ∙ c.in-Some.is))
