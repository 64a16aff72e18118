use Rattle.std.proofs.Common.{◌≡◌, length}
use Rattle.script_map.specs.Escapes.{has_hidden_escape}
use Rattle.script_map.proofs.escapes.has_hidden_escape.Given as goal

abbrev pub invariant-loop-rest : goal.invariant-loop-rest
invariant-loop-rest l = has_hidden_escape l.rest ≡ has_hidden_escape l.fn.bytes

abbrev pub decreases-loop-rest : goal.decreases-loop-rest
decreases-loop-rest l = length l.rest
