-- What may cross threads.
use denote.RattleType.{RattleType}
use denote.Param.Send.{IsSend, IsSync, sendable}
use Rattle.std.proofs.Crossing.{crosses}
use Rattle.std.proofs.sync.ledger.Share.TheSendSync as share
use Rattle.std.specs.declared.sync.ledger.Ledger as Ledger
use Rattle.pipe_pump.specs.declared.pipe.PipeIn as PipeIn
use Rattle.pipe_pump.specs.declared.pipe.PipeOut as PipeOut
use Rattle.child_edge.specs.declared.kid.Kid as Kid
use Rattle.child_edge.specs.declared.kid.Spawner as Spawner
use Rattle.child_book.proofs.book.Book.TheSendSync as book
use Rattle.child_book.proofs.full.FullCount.TheSendSync as full
use Rattle.booked_children.proofs.tickets.Held.TheSendSync as held
use Rattle.booked_children.specs.contracts.children.BookedChildren as BookedChildren
use Rattle.socket_set.specs.declared.ports.Ports as Ports
use Rattle.socket_set.specs.declared.socket.Socket as Socket
use Rattle.socket_set.proofs.set.SocketSet.TheSendSync as set
use Rattle.once_edge.proofs.Crosses.{set_send}
use Rattle.edge_loop.specs.declared.orders.Orders as Orders
use Rattle.edge_loop.proofs.asked.Asked.TheSendSync as asked
use Rattle.edge_loop.proofs.ending.Ending.TheSendSync as ending
use Rattle.edge_loop.specs.contracts.outside.NetOutside as NetOutside

booked_send : (S L R K I O : RattleType) (gs : Spawner.Ghosts S.Denot K.Denot I.Denot O.Denot) (gk : Kid.Ghosts K.Denot I.Denot O.Denot)
    (gi : PipeOut.Ghosts I.Denot) (go : PipeIn.Ghosts O.Denot) (gl : Ledger.Ghosts L.Denot)
    → IsSend S → IsSend L → IsSync L → IsSend R → IsSend K → IsSend (BookedChildren.the_field S L R K I O gs gk gi go gl).row
booked_send S L R K I O gs gk gi go gl s l y r k =
    search (sendable, crosses, set_send, held.the_field_send, book.the_send, share.the_send, full.the_send) depth 40 fits 50000

pub loop_send : (P S O L R N K I T : RattleType) (gs : Spawner.Ghosts S.Denot K.Denot I.Denot T.Denot) (gk : Kid.Ghosts K.Denot I.Denot T.Denot)
    (gi : PipeOut.Ghosts I.Denot) (gt : PipeIn.Ghosts T.Denot) (gp : Ports.Ghosts P.Denot N.Denot) (gn : Socket.Ghosts N.Denot)
    (go : Orders.Ghosts O.Denot) (gl : Ledger.Ghosts L.Denot)
    → IsSend P → IsSend S → IsSend O → IsSend L → IsSync L → IsSend R → IsSend N → IsSend K → IsSend (NetOutside.the_row P S O L R N K I T gs gk gi gt gp gn go gl)
loop_send P S O L R N K I T gs gk gi gt gp gn go gl p s o l y r n k =
    search (sendable, crosses, booked_send, set.the_send, asked.the_field_send, ending.the_field_send) depth 60 fits 50000
