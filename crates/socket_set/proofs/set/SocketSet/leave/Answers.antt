use Rattle.socket_set.proofs.Sets.{quiet_on, quiet_two}
use Rattle.socket_set.proofs.set.SocketSet.leave.Goals as goal

pub returns-then-turn_away-clause-quiet : goal.returns-then-turn_away-clause-quiet
returns-then-turn_away-clause-quiet g c = quiet_two _ _ _ (quiet_on _ _ _ c.turn_away.ensures.on) c.give_up.ensures.quiet
