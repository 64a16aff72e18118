use Rattle.std.proofs.Common.{arith, subst}
use Rattle.std.specs.Prelude.{All}
use Rattle.trace_text.specs.Items.{IsText}
use Rattle.trace_text.proofs.known.texts_are_known.Goals as goal

pub returns : goal.returns
returns c = record { count = omega arith; each = subst (All IsText) c.as_slice.ensures c.all_texts.ensures }
