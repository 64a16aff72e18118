use Rattle.std.proofs.Common.{length}
use Rattle.script_map.proofs.PathLaws.{IsResolved}
use Rattle.script_map.proofs.segments.remove_dot_segments.Given as goal

abbrev pub invariant-loop-segment : goal.invariant-loop-segment
invariant-loop-segment l = IsResolved l.path l.kept.items l.rest

abbrev pub decreases-loop-segment : goal.decreases-loop-segment
decreases-loop-segment l = length l.rest
