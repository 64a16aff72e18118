use Rattle.edge_rows.proofs.tests.loops.late.check_rows.Given as goal

abbrev pub ghosts-run_loop : goal.ghosts-run_loop
ghosts-run_loop g a = record { name = a.blank.name; parts = a.blank.parts }
