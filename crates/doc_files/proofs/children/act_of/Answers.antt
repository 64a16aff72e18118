use Rattle.std.proofs.Common.{◌∙◌, sym}
use Rattle.doc_files.proofs.OwedLaws.{some_is}
use Rattle.doc_files.proofs.children.act_of.Goals as goal

pub returns-then-starts_document-clause-kept : goal.returns-then-starts_document-clause-kept
returns-then-starts_document-clause-kept c = λ done T held orderly once known.
    c.start.ensures.kept (some_is _ _ done) T held c.args.docs.now (sym c.starts_document.ensures ∙ c.if-starts_document.true) orderly once known

pub returns-clause-kept : goal.returns-clause-kept
returns-clause-kept c = λ done T held orderly once known.
    c.give_act.ensures.kept done T held c.args.docs.now (c.note_act.ensures T held c.args.docs.now known)

pub returns-clause-other : goal.returns-clause-other
returns-clause-other c = λ none T held known. rw (c.give_act.ensures.none none) (c.note_act.ensures T held c.args.docs.now known)
