use Rattle.std.proofs.Common.{refl}
use Rattle.socket_set.proofs.Sets.{quiet_two, idle_after}
use Rattle.socket_set.proofs.set.SocketSet.poll.Goals as goal

pub returns-in-None-clause-none : goal.returns-in-None-clause-none
returns-in-None-clause-none g c = λ _. quiet_two _ _ _ (c.glance.ensures.none (rw c.in-None.is refl)) c.end_round.ensures.quiet

pub returns-in-None-clause-nothing : goal.returns-in-None-clause-nothing
returns-in-None-clause-nothing g c =
    λ n. idle_after _ _ _ c.glance.ensures.counted (c.glance.ensures.asked (rw c.in-None.is refl)) c.end_round.ensures.counted (c.end_round.ensures.tick n) (c.end_round.ensures.still n)
