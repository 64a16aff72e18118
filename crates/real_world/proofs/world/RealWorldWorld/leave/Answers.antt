use Rattle.std.proofs.Common.{arith}
use Rattle.real_world.proofs.world.RealWorldWorld.leave.Goals as goal

pub returns-clause-out : goal.returns-clause-out
returns-clause-out g c = omega (arith, c.loop-out.invariant.0, c.len.ensures, c.requires)
