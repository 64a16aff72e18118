use Rattle.std.proofs.Common.{length}
use Rattle.trace_text.proofs.ReadToLaws.{IsReadTo}
use Rattle.trace_text.proofs.text.read_lines.Given as goal

abbrev pub invariant-loop-line : goal.invariant-loop-line
invariant-loop-line l = IsReadTo l.fn.text l.items l.number l.rest

abbrev pub decreases-loop-line : goal.decreases-loop-line
decreases-loop-line l = length l.rest
