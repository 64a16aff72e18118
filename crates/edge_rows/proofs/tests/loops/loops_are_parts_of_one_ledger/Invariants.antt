use Rattle.edge_rows.proofs.tests.loops.loops_are_parts_of_one_ledger.Given as goal

abbrev pub ghosts-enter_some : goal.ghosts-enter_some
ghosts-enter_some g a = record { name = a.blank.name; parts = a.blank.parts }
