use Rattle.std.proofs.Common.{refl}
use Rattle.socket_set.proofs.Sets.{quiet_two, counted_two}
use Rattle.socket_set.proofs.set.SocketSet.ask_round.Goals as goal

pub loop-preserved : goal.loop-preserved
loop-preserved g c = (
  quiet_two _ _ _ c.loop.invariant.0 (c.ask_next.ensures.none (rw c.in-None.is refl)),
  counted_two _ _ _ c.loop.invariant.1 c.ask_next.ensures.counted,
)
