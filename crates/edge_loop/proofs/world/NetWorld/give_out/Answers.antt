use Rattle.std.proofs.Common.{arith}
use Rattle.edge_loop.proofs.world.NetWorld.give_out.Goals as goal

pub overflow_add-out : goal.overflow_add-out
overflow_add-out g c = omega (arith, c.requires.room)

pub invariant_of-self-2 : goal.invariant_of-self-2
invariant_of-self-2 g c =
    record {
      parts = omega (arith, c.args.self.now.parts, c.in_ok-outs.ensures.ok);
      none_runs = c.give.ensures.none;
      none_out = λ h. absurd (cc);
    }
