-- Those before this one are known.
use Rattle.std.proofs.Common.{◌<◌, take}
use Rattle.std.specs.Prelude.{All}
use Rattle.trace_text.proofs.known.bytes_are_known.Given as goal

abbrev pub invariant-loop-byte : goal.invariant-loop-byte
invariant-loop-byte l = All (λ b. b < 256) (take l.byte-index l.bytes)
