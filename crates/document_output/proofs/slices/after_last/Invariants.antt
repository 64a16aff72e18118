use Rattle.std.proofs.Common.{◌≡◌, ◌==◌, ◌+◌, ℕ, take, not}
use Rattle.std.specs.List.{suffix_len}
use Rattle.document_output.proofs.slices.after_last.Given as goal

abbrev pub invariant-loop-at : goal.invariant-loop-at
invariant-loop-at l = l.start + suffix_len (λ (byte : ℕ). not (byte == l.stop)) (take l.at l.bytes) ≡ l.at
