-- What each loop runs in may go to a thread of its own.
use denote.Param.Send.{sendable}
use Rattle.std.proofs.Crossing.{crosses}
use Rattle.http_server.proofs.log.Log.TheSendSync as log
use Rattle.told_outside.proofs.tallies.Tallies.TheSendSync as tallies
use Rattle.log_outside.proofs.outside.LogOutside.TheSendSync as logged
use Rattle.doc_files.proofs.outside.DocOutside.TheSendSync as documents
use Rattle.std_spawner.proofs.Crosses.{belled_send, spawner_send, kid_send}
use Rattle.once_edge.proofs.Crosses.{once_send}
use Rattle.net_sockets.proofs.socket.TcpSocket.TheSendSync as socket
use Rattle.net_edge.proofs.stdin.StdinOrders.TheSendSync as orders
use Rattle.real_world.proofs.outside.Either.TheSendSync as either
use Rattle.real_world.proofs.Crosses.{loop_send}
use Rattle.cgihost.proofs.Crosses.{ports_send}
use Rattle.cgihost.proofs.run_in.Goals as goal

pub run-requires-send-W-Out : goal.run-requires-send-W-Out
run-requires-send-W-Out g c κs within =
    let r = c.type_bounds.send-R in
    let t = c.type_bounds.send-T in
    let k = c.type_bounds.send-K in
    let l = c.type_bounds.send-L in
    let y = c.type_bounds.sync-L in
    let d = c.type_bounds.send-D in
    search (sendable, crosses, log.the_send, tallies.the_field_send, logged.the_field_send, documents.the_send, either.the_field_send, once_send, loop_send, spawner_send, kid_send, belled_send, ports_send, socket.the_field_send, orders.the_field_send) depth 90 fits 50000
