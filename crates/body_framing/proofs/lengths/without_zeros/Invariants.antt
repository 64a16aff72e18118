-- The zeros that are passed change nothing.
use Rattle.std.proofs.Common.{◌≡◌, length}
use Rattle.body_framing.specs.Framing.{without_zeros}
use Rattle.body_framing.proofs.lengths.without_zeros.Given as goal

abbrev pub invariant-loop-digits : goal.invariant-loop-digits
invariant-loop-digits l = without_zeros l.digits ≡ without_zeros l.fn.digits

abbrev pub decreases-loop-digits : goal.decreases-loop-digits
decreases-loop-digits l = length l.digits
