-- What was pushed, and what is left to read, are together what the bytes are read as.
use Rattle.std.proofs.Common.{length}
use Rattle.line_messages.specs.Reading.{ReadsOn}
use Rattle.line_messages.proofs.message.push_lines.Given as goal

abbrev pub invariant-loop-line : goal.invariant-loop-line
invariant-loop-line l = ReadsOn l.limit l.fn.bytes l.initial.texts l.texts l.rest

abbrev pub decreases-loop-line : goal.decreases-loop-line
decreases-loop-line l = length l.rest
