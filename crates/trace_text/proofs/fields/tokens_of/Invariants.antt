-- The tokens so far, and those of the rest.
use Rattle.std.proofs.Common.{◌≡◌, ◌++◌, length, map}
use Rattle.std.specs.List.{slice_split}
use Rattle.trace_text.specs.Reading.{is_space, now_of}
use Rattle.trace_text.proofs.fields.tokens_of.Given as goal

abbrev pub invariant-loop-token : goal.invariant-loop-token
invariant-loop-token l = map now_of l.tokens.items ++ slice_split is_space l.rest ≡ slice_split is_space l.line

abbrev pub decreases-loop-token : goal.decreases-loop-token
decreases-loop-token l = length l.rest
