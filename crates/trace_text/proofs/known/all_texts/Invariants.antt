-- Those before this one are known.
use Rattle.std.proofs.Common.{take}
use Rattle.std.specs.Prelude.{All}
use Rattle.trace_text.specs.Items.{IsText}
use Rattle.trace_text.proofs.known.all_texts.Given as goal

abbrev pub invariant-loop-text : goal.invariant-loop-text
invariant-loop-text l = All (IsText) (take l.text-index l.list)
