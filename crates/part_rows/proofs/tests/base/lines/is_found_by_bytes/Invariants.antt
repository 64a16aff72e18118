use Rattle.std.proofs.Common.{take}
use Rattle.head_lines.specs.Lines.{IsSearched}
use Rattle.part_rows.proofs.tests.base.lines.is_found_by_bytes.Given as goal

abbrev pub invariant-loop-count : goal.invariant-loop-count
invariant-loop-count l = IsSearched (take l.count-counter l.text) l.search.start l.search.seen
