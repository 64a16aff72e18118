-- The bytes of the items before this one.
use Rattle.std.proofs.Common.{◌≡◌, take}
use Rattle.host_trace.specs.Projections.{child_out}
use Rattle.trace_tests.proofs.words.child_out.Given as goal

abbrev pub invariant-loop-item : goal.invariant-loop-item
invariant-loop-item l = l.bytes ≡ child_out (take l.item-index l.items) l.k
