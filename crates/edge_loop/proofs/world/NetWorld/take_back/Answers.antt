use Rattle.std.proofs.Common.{arith}
use Rattle.edge_loop.proofs.world.NetWorld.take_back.Goals as goal

pub invariant_of-self : goal.invariant_of-self
invariant_of-self g c =
    record {
      parts = omega (arith, c.args.self.now.parts, c.take_back.ensures.parts, c.len.ensures, c.requires.given);
      none_runs = c.take_back.ensures.none;
      none_out = λ h. omega (arith, c.args.self.now.none_out h);
    }
