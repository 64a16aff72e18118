use Rattle.std.proofs.Common.{subst}
use Rattle.socket_set.specs.Sets.{IsQuiet, SameDevices}
use Rattle.socket_set.proofs.Sets.{quiet_two, devices_two}
use Rattle.socket_set.proofs.set.SocketSet.tick_leaving.Goals as goal

pub loop-preserved : goal.loop-preserved
loop-preserved g c = (
  quiet_two _ _ _ c.loop.invariant.0 (subst (λ x. IsQuiet x c.tick_one.new.self) c.next_leaving.ensures c.tick_one.ensures.quiet),
  devices_two _ _ _ c.loop.invariant.1 (subst (λ x. SameDevices x c.tick_one.new.self) c.next_leaving.ensures c.tick_one.ensures.same),
)
