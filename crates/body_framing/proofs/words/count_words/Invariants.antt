-- The words counted so far and those of the rest are those of the list.
use Rattle.std.proofs.Common.{◌≡◌, ◌+◌, ◌≤◌, length, min}
use Rattle.host_base.specs.Ascii.{comma_words}
use Rattle.body_framing.proofs.words.count_words.Given as goal

abbrev pub invariant-loop-part : goal.invariant-loop-part
invariant-loop-part l = (l.count ≤ 2) × (min 2 (l.count + length (comma_words l.rest)) ≡ min 2 (length (comma_words l.fn.value)))

abbrev pub decreases-loop-part : goal.decreases-loop-part
decreases-loop-part l = length l.rest
