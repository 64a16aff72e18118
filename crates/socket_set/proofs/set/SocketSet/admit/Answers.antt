use Rattle.std.proofs.Common.{◌∙◌}
use Rattle.socket_set.proofs.Sets.{accepted_told}
use Rattle.socket_set.proofs.set.SocketSet.admit.Goals as goal

pub returns-then-insert-clause-some : goal.returns-then-insert-clause-some
returns-then-insert-clause-some g c =
    accepted_told c.args.peer _ _ _ _ _ _ c.requires.listening (c.watch.ensures.peer ∙ c.requires.given) c.watch.ensures.same c.new-client.ensures c.watch.ensures.client (c.insert.ensures.kept c.if-insert.true)
