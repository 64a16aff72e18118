use Rattle.doc_files.proofs.OwedLaws.{owes_exit}
use Rattle.doc_files.proofs.child.Child.exit.Goals as goal

pub returns-clause-kept : goal.returns-clause-kept
returns-clause-kept c = λ T held docs o. owes_exit held docs T c.args.self.now.k c.args.self.now.output c.args.self.now.over c.requires o
