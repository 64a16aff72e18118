use Rattle.std.specs.List.{AllWithin}
use Rattle.real_world.specs.Reals.{IsHalted}
use Rattle.real_world.proofs.leaving.halt_all.Given as goal

abbrev pub invariant-loop-i : goal.invariant-loop-i
invariant-loop-i g l = AllWithin IsHalted l.outs 0 l.i
