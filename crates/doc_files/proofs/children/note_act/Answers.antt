use Rattle.std.proofs.Common.{◌∙◌, ◌∷◌, ◌++◌, [], ap, length, refl, subst, sym}
use Rattle.host_trace.specs.declared.items.Item.TheVariants.{In, Out}
use Rattle.doc_files.specs.Owed.{Knows}
use Rattle.doc_files.proofs.KnowsLaws.{written_back}
use Rattle.doc_files.proofs.children.note_act.Goals as goal

pub returns-in-Shut : goal.returns-in-Shut
returns-in-Shut c = λ T held docs known.
    subst (λ l. Knows held docs T l) (sym (written_back c.note_shut.new.children c.args.children.now.items c.args.children.now.len
    (sym c.as_mut_slice.ensures.len ∙ ap length c.as_mut_slice.ensures.value) (c.note_shut.ensures.len ∙ ap length c.as_mut_slice.ensures.value)))
    (c.note_shut.ensures.kept T held docs (subst (λ l. Knows held docs T l) (sym c.as_mut_slice.ensures.value) known))
