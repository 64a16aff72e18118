use Rattle.std.proofs.Common.{◌∙◌, ◌∷◌, ◌++◌, [], ap, length, refl, subst, sym}
use Rattle.host_trace.specs.declared.items.Item.TheVariants.{In, Out}
use Rattle.doc_files.specs.Owed.{Knows}
use Rattle.doc_files.proofs.KnowsLaws.{written_back}
use Rattle.doc_files.proofs.children.next_of.Goals as goal

pub returns-clause-kept : goal.returns-clause-kept
returns-clause-kept g c = λ T held holds known. c.settle.ensures (T ++ In c.in_ok-event.event ∷ []) held c.args.docs.now (
    subst (λ l. Knows held c.args.docs.now (T ++ In c.in_ok-event.event ∷ []) l) (sym (written_back c.due_at.new.children c.args.children.now.items c.args.children.now.len
    (sym c.as_mut_slice.ensures.len ∙ ap length c.as_mut_slice.ensures.value) (c.due_at.ensures.len ∙ ap length c.as_mut_slice.ensures.value)))
    (c.in_ok-event.ensures.kept T held holds (subst (λ l. Knows held c.args.docs.now T l) (sym c.as_mut_slice.ensures.value) known)))
