use Rattle.std.proofs.Common.{take}
use Rattle.head_reader.specs.RequestHead.{IsSearchedHead}
use Rattle.part_rows.proofs.tests.requests.heads.is_right_by_bytes.Given as goal

abbrev pub invariant-loop-count : goal.invariant-loop-count
invariant-loop-count l = IsSearchedHead l.limits (take l.count l.text) l.search
