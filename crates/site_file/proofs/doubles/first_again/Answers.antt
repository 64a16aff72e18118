use Rattle.std.proofs.Common.{sym}
use Rattle.site_file.specs.Doubles.{same_by}
use Rattle.site_file.proofs.DoubleLaws.{again_here, again_later, again_nowhere}
use Rattle.site_file.proofs.doubles.first_again.Goals as goal

pub returns-then-is_among : goal.returns-then-is_among
returns-then-is_among c =
    again_here (same_by c.args.sameness) c.args.texts.now c.loop-index.index c.index-texts-index.result c.split_at.result.0.now _ c.loop-index.invariant
    c.loop-index-test.true c.index-texts-index.is c.split_at.ensures.front (sym c.if-is_among.ensures)

pub loop-index-preserved : goal.loop-index-preserved
loop-index-preserved c =
    again_later (same_by c.args.sameness) c.args.texts.now c.loop-index.index c.index-texts-index.result c.split_at.result.0.now _ c.loop-index.invariant
    c.loop-index-test.true c.index-texts-index.is c.split_at.ensures.front (sym c.if-is_among.ensures)

pub returns : goal.returns
returns c = again_nowhere (same_by c.args.sameness) c.args.texts.now c.loop-index.index _ c.loop-index.invariant c.loop-index-test.false
