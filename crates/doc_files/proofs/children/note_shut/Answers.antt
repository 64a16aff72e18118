use Rattle.std.proofs.Common.{length, sym, ◌∙◌, arith}
use Rattle.std.specs.Prelude.{slice_index_or, slice_set}
use Rattle.std.proofs.lemmas.List.{length-set}
use Rattle.doc_files.proofs.KnowsLaws.{at_get, knows_marked, owes_at}
use Rattle.doc_files.proofs.children.note_shut.Goals as goal

pub loop-at-preserved : goal.loop-at-preserved
loop-at-preserved c = (
  length-set c.loop-at.children c.loop-at.at c.hear_shut.new.self ∙ c.loop-at.invariant.0,
  λ T held docs known.
      let was = c.loop-at.invariant.1 T held docs known in
      let old = slice_index_or c.loop-at.children c.loop-at.at c.index-children-at.result in
      let at = at_get c.loop-at.children c.loop-at.at c.index-children-at.result (omega (arith, c.loop-at-test.true, c.loop-at.invariant.0)) in
      knows_marked held docs T c.loop-at.children c.loop-at.at old c.hear_shut.new.self at (sym c.hear_shut.ensures.number)
      (rw (c.hear_shut.ensures.number, c.hear_shut.ensures.output, c.hear_shut.ensures.over) (owes_at held docs T c.loop-at.children c.loop-at.at old at was)) was,
)
