use Rattle.std.proofs.Common.{sym}
use Rattle.std.specs.Prelude.{slice_index_or}
use Rattle.host_trace.specs.declared.items.Item.TheVariants.{Out}
use Rattle.doc_files.proofs.KnowsLaws.{at_get, knows_at, knows_numbered, numbered_rests, owes_at}
use Rattle.doc_files.proofs.children.give_at.Goals as goal

pub returns-then-eq-clause-kept : goal.returns-then-eq-clause-kept
returns-then-eq-clause-kept c = λ T held docs known.
    let old = slice_index_or c.args.children.now c.args.at c.index-children-at-then-eq.result in
    let at = at_get c.args.children.now c.args.at c.index-children-at-then-eq.result c.if-at-children.true in
    knows_at held docs T (Out c.args.act.now) c.args.children.now c.args.at old c.give.new.self at (sym c.give.ensures.number)
    (λ q other. numbered_rests c.args.act.now c.requires q)
    (c.give.ensures.kept T held docs (owes_at held docs T c.args.children.now c.args.at old at known)) known

pub returns-else-at-children-clause-kept : goal.returns-else-at-children-clause-kept
returns-else-at-children-clause-kept c = λ T held docs. knows_numbered held docs T c.args.act.now c.args.children.now c.requires
