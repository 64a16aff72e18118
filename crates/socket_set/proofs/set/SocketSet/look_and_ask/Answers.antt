use Rattle.socket_set.proofs.Sets.{quiet_two, tells_later}
use Rattle.socket_set.proofs.set.SocketSet.look_and_ask.Goals as goal

pub returns-clause-some : goal.returns-clause-some
returns-clause-some g c = tells_later c.ask_round.result _ _ _ c.begin_round.ensures.quiet c.ask_round.ensures.some

pub returns-clause-none : goal.returns-clause-none
returns-clause-none g c = λ n. quiet_two _ _ _ c.begin_round.ensures.quiet (c.ask_round.ensures.none n)
