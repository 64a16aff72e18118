use Rattle.std.proofs.Common.{sym}
use Rattle.std.specs.Prelude.{slice_index_or}
use Rattle.host_trace.specs.declared.items.Item.TheVariants.{In}
use Rattle.doc_files.specs.Owed.{IsOf, Knows, Owes}
use Rattle.doc_files.proofs.KnowsLaws.{at_get, knows_at, owes_at}
use Rattle.doc_files.proofs.OwedLaws.{both_some}
use Rattle.doc_files.proofs.children.due_at.Goals as goal

pub returns-clause-kept : goal.returns-clause-kept
returns-clause-kept g c = λ T held holds known.
    let at = at_get c.args.children.now c.args.at c.index-children-at.result c.if-at-children.false in
    both_some c.due.result _ _ _ (c.due.ensures.kept T held holds (owes_at held c.args.docs.now T c.args.children.now c.args.at (slice_index_or c.args.children.now c.args.at c.index-children-at.result) at known)) c.due.ensures.own
    (λ e owes own.
    knows_at held c.args.docs.now T (In e) c.args.children.now c.args.at (slice_index_or c.args.children.now c.args.at c.index-children-at.result) c.due.new.self at (sym c.due.ensures.number) own owes known)
