use Rattle.std.proofs.Common.{arith}
use Rattle.trace_text.specs.Items.{IsPair}
use Rattle.trace_text.proofs.ReadLaws.{all_more, all_taken}
use Rattle.trace_text.proofs.known.all_pairs.Goals as goal

pub loop-pair-preserved : goal.loop-pair-preserved
loop-pair-preserved c =
    all_more IsPair c.args.list.now c.loop-pair.pair-index c.pair-item.result _ c.loop-pair-test.true c.pair-item.is c.loop-pair.invariant c.pair_is_known.ensures

pub returns : goal.returns
returns c = all_taken IsPair c.args.list.now c.loop-pair.pair-index (omega arith) c.loop-pair.invariant
