-- No part up to the rest is another coding.
use Rattle.std.proofs.Common.{◌≡◌, length}
use Rattle.std.specs.List.{list_any, slice_split}
use Rattle.host_base.specs.Ascii.{is_comma}
use Rattle.body_framing.specs.Framing.{is_other_part}
use Rattle.body_framing.proofs.words.has_other_part.Given as goal

abbrev pub invariant-loop-part : goal.invariant-loop-part
invariant-loop-part l = list_any (is_other_part l.word) (slice_split is_comma l.rest) ≡ list_any (is_other_part l.word) (slice_split is_comma l.fn.value)

abbrev pub decreases-loop-part : goal.decreases-loop-part
decreases-loop-part l = length l.rest
