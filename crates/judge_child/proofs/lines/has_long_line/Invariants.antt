-- No line so far is too long.
use Rattle.std.proofs.Common.{◌≡◌, length}
use Rattle.host_trace.specs.Decider.{has_long_line}
use Rattle.judge_child.proofs.lines.has_long_line.Given as goal

abbrev pub invariant-loop-line : goal.invariant-loop-line
invariant-loop-line l = has_long_line l.most l.rest ≡ has_long_line l.most l.bytes

abbrev pub decreases-loop-line : goal.decreases-loop-line
decreases-loop-line l = length l.rest
