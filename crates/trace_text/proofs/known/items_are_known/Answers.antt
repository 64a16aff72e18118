use Rattle.std.proofs.Common.{arith}
use Rattle.trace_text.specs.Items.{IsItem}
use Rattle.trace_text.proofs.ReadLaws.{all_more, all_taken}
use Rattle.trace_text.proofs.known.items_are_known.Goals as goal

pub loop-item-preserved : goal.loop-item-preserved
loop-item-preserved c =
    all_more IsItem c.args.items.now c.loop-item.item-index c.item-item.result _ c.loop-item-test.true c.item-item.is c.loop-item.invariant c.item_is_known.ensures

pub returns : goal.returns
returns c = all_taken IsItem c.args.items.now c.loop-item.item-index (omega arith) c.loop-item.invariant
