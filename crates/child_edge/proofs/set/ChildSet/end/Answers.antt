use Rattle.child_edge.proofs.set.ChildSet.end.Goals as goal

pub returns-clause-ended : goal.returns-clause-ended
returns-clause-ended g c = record { last = c.end_kids.new.self.rows.items; ended = c.end_kids.ensures.ended }
