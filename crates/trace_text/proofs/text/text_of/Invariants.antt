-- The text of the items before this one.
use Rattle.std.proofs.Common.{◌≡◌, take}
use Rattle.std.specs.Prelude.{string_bytes}
use Rattle.trace_text.specs.Spelling.{text_of}
use Rattle.trace_text.proofs.text.text_of.Given as goal

abbrev pub invariant-loop-item : goal.invariant-loop-item
invariant-loop-item l = string_bytes l.text ≡ text_of (take l.item-index l.items)
