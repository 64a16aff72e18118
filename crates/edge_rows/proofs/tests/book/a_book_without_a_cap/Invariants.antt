use Rattle.edge_rows.proofs.tests.book.a_book_without_a_cap.Given as goal

abbrev pub ghosts-none_at_first : goal.ghosts-none_at_first
ghosts-none_at_first g a = record { name = a.blank.name; parts = a.blank.parts }
