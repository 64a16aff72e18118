use Rattle.std.proofs.Common.{arith}
use Rattle.document_output.proofs.NumberLaws.{next_digit}
use Rattle.document_output.proofs.numbers.value_of.Goals as goal

pub overflow_mul-value : goal.overflow_mul-value
overflow_mul-value c =
    let n = next_digit c.args.digits.now c.loop-digit.digit-index c.loop-digit.value c.requires c.loop-digit-test.true c.loop-digit.invariant in
    omega (arith, n.small)

pub overflow_add-value : goal.overflow_add-value
overflow_add-value c =
    let n = next_digit c.args.digits.now c.loop-digit.digit-index c.loop-digit.value c.requires c.loop-digit-test.true c.loop-digit.invariant in
    omega (arith, n.small, c.from.ensures)

pub loop-digit-preserved : goal.loop-digit-preserved
loop-digit-preserved c =
    let n = next_digit c.args.digits.now c.loop-digit.digit-index c.loop-digit.value c.requires c.loop-digit-test.true c.loop-digit.invariant in
    omega (arith, n.more, c.from.ensures)
