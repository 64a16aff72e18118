-- What is added so far, with what the rest adds, is what all adds.
use Rattle.std.proofs.Common.{◌≡◌, ◌≤◌, ◌++◌, length}
use Rattle.std.specs.Prelude.{string_bytes, string_capacity}
use Rattle.std.specs.List.{flat_map}
use Rattle.trace_text.specs.Spelling.{hex_byte}
use Rattle.trace_text.proofs.spelling.push_hex.Given as goal

abbrev pub invariant-loop-rest : goal.invariant-loop-rest
invariant-loop-rest l =
    (string_bytes l.text ++ flat_map hex_byte l.rest ≡ string_bytes l.fn.text ++ flat_map hex_byte l.bytes) × (string_capacity l.fn.text ≤ string_capacity l.text)

abbrev pub decreases-loop-rest : goal.decreases-loop-rest
decreases-loop-rest l = length l.rest
