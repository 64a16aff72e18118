use Rattle.edge_rows.proofs.tests.orders.is_kept.Given as goal

abbrev pub ghosts-run_two : goal.ghosts-run_two
ghosts-run_two g a = record { name = a.blank.name; parts = a.blank.parts }
