use Rattle.std.proofs.Common.{refl}
use Rattle.trace_text.proofs.ReadLaws.{too_long, one_digit}
use Rattle.trace_text.proofs.fields.wide_number.Goals as goal

pub loop-byte-preserved : goal.loop-byte-preserved
loop-byte-preserved c =
    one_digit c.args.token.now c.loop-byte.byte-index c.loop-byte.value c.in-Some.more _ c.with_digit.result c.loop-byte-test.true c.loop-byte.invariant.0 refl c.with_digit.ensures c.in-Some.is

pub returns-in-None : goal.returns-in-None
returns-in-None c =
    too_long c.args.token.now c.loop-byte.byte-index c.loop-byte.value _ c.with_digit.result c.loop-byte-test.true c.loop-byte.invariant.0 refl c.with_digit.ensures c.in-None.is
