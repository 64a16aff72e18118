use Rattle.socket_set.proofs.Sets.{tells_if}
use Rattle.socket_set.proofs.set.SocketSet.ask_client.Goals as goal

pub returns-clause-some : goal.returns-clause-some
returns-clause-some g c = tells_if c.args.c c.turn.result _ _ c.turn.ensures.known c.turn.ensures.on
