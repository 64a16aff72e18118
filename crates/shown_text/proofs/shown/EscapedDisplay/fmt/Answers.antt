use Rattle.std.proofs.Common.{rules, arith}
use Rattle.shown_text.proofs.ShownLaws.{escaped-text}
use Rattle.shown_text.proofs.shown.EscapedDisplay.fmt.Goals as goal

pub returns-clause-writes : goal.returns-clause-writes
returns-clause-writes g c = rw (escaped-text _ _ _ c.args.self.now.small c.in_radix.ensures c.laid_out.ensures) at c.write.ensures.writes
