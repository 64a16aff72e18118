-- Each front goes on with what the item writes.
use Rattle.std.proofs.Common.{[], ◌∙◌, arith}
use Rattle.std.specs.Prelude.{slice_index_or}
use Rattle.sample_parts.proofs.FrontLaws.{front_more, front_short}
use Rattle.sample_parts.proofs.fronts.fronts_of.Goals as goal

pub note-requires : goal.note-requires
note-requires c = λ d h. front_short (slice_index_or c.loop-item.fronts.items d []) _ (c.loop-item.invariant.each d (omega (arith, c.loop-item.invariant.len, h)))

pub loop-item-preserved : goal.loop-item-preserved
loop-item-preserved c = record {
  len = c.note.ensures.count ∙ c.loop-item.invariant.len;
  each = λ d h.
      front_more c.args.items.now c.loop-item.item-index c.item-item.result d (slice_index_or c.loop-item.fronts.items d []) (slice_index_or c.note.new.fronts.items d [])
      (omega arith) c.item-item.is (c.loop-item.invariant.each d h) (c.in_ok-note.ensures.each d (omega (arith, c.loop-item.invariant.len, h)));
}
