use Rattle.edge_rows.proofs.tests.book.a_book_of_one.Given as goal

abbrev pub ghosts-one_at_a_time : goal.ghosts-one_at_a_time
ghosts-one_at_a_time g a = record { name = a.blank.name; parts = a.blank.parts }
