use Rattle.std.proofs.Common.{◌≡◌}
use Rattle.std.specs.Vec.Iter.{into_iter_len}
use Rattle.real_world.proofs.world.RealWorldWorld.leave.Given as goal

abbrev pub invariant-loop-out : goal.invariant-loop-out
invariant-loop-out g l = (l.self.out ≡ l.initial.self.out) × (l.self.faults ≡ l.initial.self.faults)

abbrev pub decreases-loop-out : goal.decreases-loop-out
decreases-loop-out g l = into_iter_len l.outs
