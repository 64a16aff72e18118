use Rattle.std.proofs.Common.{◌∙◌, ◌∷◌, ◌++◌, [], ap, length, refl, subst, sym}
use Rattle.host_trace.specs.declared.items.Item.TheVariants.{In, Out}
use Rattle.doc_files.specs.Owed.{Knows}
use Rattle.doc_files.proofs.KnowsLaws.{written_back}
use Rattle.doc_files.proofs.children.give_to.Goals as goal

pub returns-clause-kept : goal.returns-clause-kept
returns-clause-kept c = λ is T held docs known. c.settle.ensures (T ++ Out c.args.act.now ∷ []) held docs (
    subst (λ l. Knows held docs (T ++ Out c.args.act.now ∷ []) l) (sym (written_back c.give_at.new.children c.args.children.now.items c.args.children.now.len
    (sym c.as_mut_slice.ensures.len ∙ ap length c.as_mut_slice.ensures.value) (c.give_at.ensures.len ∙ ap length c.as_mut_slice.ensures.value)))
    (c.give_at.ensures.kept T held docs (subst (λ l. Knows held docs T l) (sym c.as_mut_slice.ensures.value) known)))
