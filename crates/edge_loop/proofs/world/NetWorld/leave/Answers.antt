use Rattle.std.proofs.Common.{arith}
use Rattle.edge_loop.proofs.Fresh.{all_written}
use Rattle.edge_loop.proofs.world.NetWorld.leave.Goals as goal

pub take_back-requires-clause-sent : goal.take_back-requires-clause-sent
take_back-requires-clause-sent g c =
    λ _ _. all_written c.args.outs.len c.args.outs.items c.end_all.new.outs (omega (arith, c.end_all.auto.outs, c.as_mut_slice.ensures.len)) c.end_all.ensures
