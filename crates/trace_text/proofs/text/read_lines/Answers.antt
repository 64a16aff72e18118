use Rattle.std.proofs.Common.{arith}
use Rattle.std.proofs.lemmas.List.Splits.{length-slice_split}
use Rattle.trace_text.specs.Reading.{is_lf}
use Rattle.trace_text.proofs.text.read_lines.Goals as goal

pub overflow_add-number : goal.overflow_add-number
overflow_add-number c = omega (arith, length-slice_split is_lf c.args.text.now, c.loop-line.invariant.count)
