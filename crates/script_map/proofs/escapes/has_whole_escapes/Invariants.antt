use Rattle.std.proofs.Common.{◌≡◌, length}
use Rattle.script_map.specs.Escapes.{has_whole_escapes}
use Rattle.script_map.proofs.escapes.has_whole_escapes.Given as goal

abbrev pub invariant-loop-rest : goal.invariant-loop-rest
invariant-loop-rest l = has_whole_escapes l.rest ≡ has_whole_escapes l.fn.bytes

abbrev pub decreases-loop-rest : goal.decreases-loop-rest
decreases-loop-rest l = length l.rest
