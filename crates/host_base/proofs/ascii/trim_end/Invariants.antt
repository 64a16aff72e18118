-- The blanks at the end that are passed change nothing.
use Rattle.std.proofs.Common.{◌≡◌, length}
use Rattle.host_base.specs.Ascii.{skip_end}
use Rattle.host_base.proofs.ascii.trim_end.Given as goal

abbrev pub invariant-loop-bytes : goal.invariant-loop-bytes
invariant-loop-bytes l = skip_end l.bytes ≡ skip_end l.fn.bytes

abbrev pub decreases-loop-bytes : goal.decreases-loop-bytes
decreases-loop-bytes l = length l.bytes
