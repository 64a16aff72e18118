use Rattle.std.proofs.Common.{arith, subst}
use Rattle.std.specs.Prelude.{All}
use Rattle.trace_text.specs.Items.{IsPair}
use Rattle.trace_text.proofs.known.pairs_are_known.Goals as goal

pub returns : goal.returns
returns c = record { count = omega arith; each = subst (All IsPair) c.as_slice.ensures c.all_pairs.ensures }
