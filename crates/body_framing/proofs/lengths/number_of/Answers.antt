use Rattle.std.proofs.Common.{get_or, refl, ◌∙◌}
use Rattle.body_framing.proofs.WordLaws.{number_long}
use Rattle.body_framing.proofs.lengths.number_of.Goals as goal

pub returns-in_err-number : goal.returns-in_err-number
returns-in_err-number c =
    c.from_residual.ensures
    ∙ number_long c.loop-byte.number c.loop-byte.byte-index (get_or c.args.digits.now c.loop-byte.byte-index 0) c.args.digits.now c.loop-byte-test.true refl c.in_err-number.ensures c.loop-byte.invariant.0
