-- The bytes before `at` were read, and the rest is left.
use Rattle.std.proofs.Common.{◌-◌, length}
use Rattle.body_framing.proofs.Runs.{HasRead}
use Rattle.body_framing.proofs.chunks.Chunks.read.Given as goal

abbrev pub invariant-loop-at : goal.invariant-loop-at
invariant-loop-at l = HasRead l.fn.self l.self l.bytes l.at

abbrev pub decreases-loop-at : goal.decreases-loop-at
decreases-loop-at l = length l.bytes - l.at
