use Rattle.head_lines.specs.Lines.{IsSearched}
use Rattle.head_lines.proofs.search.Search.front_end.Given as goal

abbrev pub invariant-loop-i : goal.invariant-loop-i
invariant-loop-i l = IsSearched l.text l.start l.i
