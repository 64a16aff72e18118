use Rattle.doc_files.proofs.KnowsLaws.{knows_removed}
use Rattle.doc_files.proofs.children.settle.Goals as goal

pub returns-then-is_settled : goal.returns-then-is_settled
returns-then-is_settled c = λ T held docs known. rw c.remove.ensures.items (knows_removed held docs T c.args.at c.args.children.now.items known)
