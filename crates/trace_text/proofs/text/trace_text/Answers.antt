use Rattle.trace_text.proofs.LineLaws.{back_if}
use Rattle.trace_text.proofs.text.trace_text.Goals as goal

pub returns-clause-back : goal.returns-clause-back
returns-clause-back c =
    back_if c.args.items.now c.as_slice.result.now c.as_slice-2.result.now c.text_of.result c.as_slice.ensures c.items_are_known.ensures c.as_slice-2.ensures c.text_of.ensures
