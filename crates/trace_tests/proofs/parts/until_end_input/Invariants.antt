-- None of the items so far passes.
use Rattle.std.proofs.Common.{◌≡◌, ◌++◌, drop, take}
use Rattle.host_trace.specs.Kinds.{is_end_input}
use Rattle.trace_child.specs.Words.{until}
use Rattle.trace_tests.proofs.parts.until_end_input.Given as goal

abbrev pub invariant-loop-i : goal.invariant-loop-i
invariant-loop-i l = take l.i l.items ++ until (is_end_input l.k) (drop l.i l.items) ≡ until (is_end_input l.k) l.items
