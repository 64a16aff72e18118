-- What is added so far, with what the rest adds, is what all adds.
use Rattle.std.proofs.Common.{◌≡◌, ◌≤◌, ◌++◌, length}
use Rattle.std.specs.Prelude.{string_bytes, string_capacity}
use Rattle.trace_text.specs.Spelling.{spelled, texts}
use Rattle.trace_text.proofs.spelling.push_texts.Given as goal

abbrev pub invariant-loop-rest : goal.invariant-loop-rest
invariant-loop-rest l =
    (string_bytes l.text ++ spelled (texts l.rest) ≡ string_bytes l.fn.text ++ spelled (texts l.list)) × (string_capacity l.fn.text ≤ string_capacity l.text)

abbrev pub decreases-loop-rest : goal.decreases-loop-rest
decreases-loop-rest l = length l.rest
