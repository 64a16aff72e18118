-- The lines before the rest are read, and none of them is refused.
use Rattle.std.proofs.Common.{◌≡◌, length, Some}
use Rattle.head_lines.specs.Lines.{Front, front_of}
use Rattle.cgi_header.proofs.HeaderLaws.{IsRead}
use Rattle.cgi_header.proofs.read.read_fields.Given as goal

abbrev pub invariant-loop-line : goal.invariant-loop-line
invariant-loop-line l = (front : Front) → front_of l.fn.header ≡ Some front → IsRead front.lines l.rest l.fields

abbrev pub decreases-loop-line : goal.decreases-loop-line
decreases-loop-line l = length l.rest
