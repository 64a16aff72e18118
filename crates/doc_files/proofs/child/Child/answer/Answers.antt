use Rattle.doc_files.proofs.OwedLaws.{owes_bytes, owes_end}
use Rattle.doc_files.proofs.child.Child.answer.Goals as goal

pub returns-in-Some-clause-kept : goal.returns-in-Some-clause-kept
returns-in-Some-clause-kept c = λ T held docs o.
    owes_bytes held docs T c.args.self.now.k c.in-Some.bytes c.args.self.now.output c.next_piece.new.output c.args.self.now.over c.in-Some.ensures o

pub returns-in-None-clause-kept : goal.returns-in-None-clause-kept
returns-in-None-clause-kept c = λ T held docs o.
    owes_end held docs T c.args.self.now.k c.args.self.now.output c.next_piece.new.output c.args.self.now.over c.in-None.ensures o
