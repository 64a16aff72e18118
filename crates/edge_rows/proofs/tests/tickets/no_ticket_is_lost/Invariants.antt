use Rattle.edge_rows.proofs.tests.tickets.no_ticket_is_lost.Given as goal

abbrev pub ghosts-run_children : goal.ghosts-run_children
ghosts-run_children g a = record { name = a.blank.name; parts = a.blank.parts }
