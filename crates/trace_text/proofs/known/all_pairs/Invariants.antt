-- Those before this one are known.
use Rattle.std.proofs.Common.{take}
use Rattle.std.specs.Prelude.{All}
use Rattle.trace_text.specs.Items.{IsPair}
use Rattle.trace_text.proofs.known.all_pairs.Given as goal

abbrev pub invariant-loop-pair : goal.invariant-loop-pair
invariant-loop-pair l = All (IsPair) (take l.pair-index l.list)
