use Rattle.std.proofs.Common.{arith}
use Rattle.trace_text.specs.Items.{IsText}
use Rattle.trace_text.proofs.ReadLaws.{all_more, all_taken}
use Rattle.trace_text.proofs.known.all_texts.Goals as goal

pub loop-text-preserved : goal.loop-text-preserved
loop-text-preserved c =
    all_more IsText c.args.list.now c.loop-text.text-index c.text-item.result _ c.loop-text-test.true c.text-item.is c.loop-text.invariant c.text_is_known.ensures

pub returns : goal.returns
returns c = all_taken IsText c.args.list.now c.loop-text.text-index (omega arith) c.loop-text.invariant
