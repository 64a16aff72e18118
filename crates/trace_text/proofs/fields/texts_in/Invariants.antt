-- What is read so far, and what the rest is read as.
use Rattle.std.proofs.Common.{◌≡◌, ◌++◌, length, map}
use Rattle.trace_text.specs.Reading.{now_of, text_in}
use Rattle.trace_text.proofs.fields.texts_in.Given as goal

abbrev pub invariant-loop-rest : goal.invariant-loop-rest
invariant-loop-rest l = l.texts ++ map text_in (map now_of l.rest) ≡ map text_in (map now_of l.tokens)

abbrev pub decreases-loop-rest : goal.decreases-loop-rest
decreases-loop-rest l = length l.rest
