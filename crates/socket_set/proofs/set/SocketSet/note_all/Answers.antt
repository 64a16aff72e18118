use Rattle.std.proofs.Common.{subst}
use Rattle.socket_set.specs.Sets.{IsQuiet, SameDevices}
use Rattle.socket_set.proofs.Sets.{quiet_two, devices_two}
use Rattle.socket_set.proofs.set.SocketSet.note_all.Goals as goal

pub loop-preserved : goal.loop-preserved
loop-preserved g c = (
  quiet_two _ _ _ c.loop.invariant.0 (subst (λ x. IsQuiet x c.note.new.self) c.next_ready.ensures c.note.ensures.quiet),
  devices_two _ _ _ c.loop.invariant.1 (subst (λ x. SameDevices x c.note.new.self) c.next_ready.ensures c.note.ensures.same),
)
