use Rattle.doc_files.proofs.children.give_act.Goals as goal

pub returns-then-give_to-clause-kept : goal.returns-then-give_to-clause-kept
returns-then-give_to-clause-kept c = λ is T held docs known. c.give_to.ensures.kept c.if-give_to.true T held docs known
