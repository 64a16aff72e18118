use denote.Param.Send.{sendable}
use Rattle.std.proofs.Crossing.{crosses}
use Rattle.std_spawner.proofs.Crosses.{belled_send, spawner_send, kid_send}
use Rattle.once_edge.proofs.Crosses.{once_send}
use Rattle.edge_rows.proofs.tests.once.once_refuses.Goals as goal

pub refuses-requires-send-W-Out : goal.refuses-requires-send-W-Out
refuses-requires-send-W-Out g c κs within =
    let r = c.type_bounds.send-R in
    let t = c.type_bounds.send-T in
    let k = c.type_bounds.send-K in
    search (sendable, crosses, once_send, spawner_send, kid_send, belled_send) depth 30 fits 20000
