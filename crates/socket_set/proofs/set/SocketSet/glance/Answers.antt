use Rattle.std.proofs.Common.{refl}
use Rattle.socket_set.proofs.Sets.{quiet_two, tells_later, waits_later}
use Rattle.socket_set.proofs.set.SocketSet.glance.Goals as goal

pub returns-in-None-clause-some : goal.returns-in-None-clause-some
returns-in-None-clause-some g c = tells_later c.ask_now.result _ _ _ (c.tick.ensures.none (rw c.in-None.is refl)) c.ask_now.ensures.some

pub returns-in-None-clause-none : goal.returns-in-None-clause-none
returns-in-None-clause-none g c = λ n. quiet_two _ _ _ (c.tick.ensures.none (rw c.in-None.is refl)) (c.ask_now.ensures.none n)

pub returns-in-None-clause-asked : goal.returns-in-None-clause-asked
returns-in-None-clause-asked g c = λ n. waits_later _ _ _ c.tick.ensures.counted (c.ask_now.ensures.asked n)
