use Rattle.std.proofs.Common.{◌≡◌, ◌++◌, take}
use Rattle.meta_variables.proofs.HeaderLaws.{variables_of}
use Rattle.meta_variables.proofs.headers.push_headers.Given as goal

abbrev pub invariant-loop-i : goal.invariant-loop-i
invariant-loop-i l = l.variables ≡ l.initial.variables ++ variables_of l.fields (take l.i l.fields)
