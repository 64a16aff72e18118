-- A row goes on with the event, and is of a connection that was accepted.
use Rattle.std.proofs.Common.{sym, ◌∙◌}
use Rattle.told_outside.proofs.ClientRowLaws.{beside, known_of_open}
use Rattle.told_outside.proofs.client_rows.ClientRows.heard_row.Goals as goal

pub returns-in-Some : goal.returns-in-Some
returns-in-Some c = λ T tie.
    let row = sym c.row.ensures ∙ c.in-Some.is in
    beside c.heard.result _ _ (c.heard.ensures.counted T (tie.each c.args.c c.in-Some.tally row)) (known_of_open T c.args.c (tie.open_rows c.args.c c.in-Some.tally row))
