use Rattle.doc_files.proofs.KnowsLaws.{knows_started}
use Rattle.doc_files.proofs.children.start.Goals as goal

pub returns-in-Start-clause-kept : goal.returns-in-Start-clause-kept
returns-in-Start-clause-kept c = λ done T held docs starts orderly once known.
    let b = c.begin.ensures.begun done in
    rw (c.in-Start.is, b.1)
    (knows_started held docs T c.in-Start.k c.in-Start.c _ _ c.in-Start.launch c.args.children.now.items b.0 (rw c.in-Start.is at starts) orderly (rw c.in-Start.is at once) b.2 b.3 b.4 known)
