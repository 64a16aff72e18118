use Rattle.std.proofs.Common.{refl}
use Rattle.socket_set.proofs.Sets.{quiet_two, tells_later, waits_later}
use Rattle.socket_set.proofs.set.SocketSet.ask_now.Goals as goal

pub returns-in-None-clause-some : goal.returns-in-None-clause-some
returns-in-None-clause-some g c = tells_later c.look_and_ask.result _ _ _ (c.ask_rest.ensures.none (rw c.in-None.is refl)) c.look_and_ask.ensures.some

pub returns-in-None-clause-none : goal.returns-in-None-clause-none
returns-in-None-clause-none g c = λ n. quiet_two _ _ _ (c.ask_rest.ensures.none (rw c.in-None.is refl)) (c.look_and_ask.ensures.none n)

pub returns-in-None-clause-asked : goal.returns-in-None-clause-asked
returns-in-None-clause-asked g c = λ n. waits_later _ _ _ c.ask_rest.ensures.counted (c.look_and_ask.ensures.asked n)
