use Rattle.std.proofs.Common.{length}
use Rattle.search_words.proofs.WordsLaws.{IsGathered}
use Rattle.search_words.proofs.words.search_words.Given as goal

abbrev pub invariant-loop-part : goal.invariant-loop-part
invariant-loop-part l = IsGathered l.fn.query l.words l.rest

abbrev pub decreases-loop-part : goal.decreases-loop-part
decreases-loop-part l = length l.rest
