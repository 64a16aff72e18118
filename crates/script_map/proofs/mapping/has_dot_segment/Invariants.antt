use Rattle.std.proofs.Common.{◌≡◌, length}
use Rattle.script_map.specs.Mapping.{has_dot_segment}
use Rattle.script_map.proofs.mapping.has_dot_segment.Given as goal

abbrev pub invariant-loop-segment : goal.invariant-loop-segment
invariant-loop-segment l = has_dot_segment l.rest ≡ has_dot_segment l.fn.path

abbrev pub decreases-loop-segment : goal.decreases-loop-segment
decreases-loop-segment l = length l.rest
