-- Those before this one are known.
use Rattle.std.proofs.Common.{take}
use Rattle.std.specs.Prelude.{All}
use Rattle.trace_text.specs.Items.{IsItem}
use Rattle.trace_text.proofs.known.items_are_known.Given as goal

abbrev pub invariant-loop-item : goal.invariant-loop-item
invariant-loop-item l = All (IsItem) (take l.item-index l.items)
