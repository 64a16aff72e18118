-- What may cross threads.
use denote.RattleType.{RattleType}
use denote.Param.Send.{IsSend, sendable, struct_send}
use denote.Struct.Declared.{shape}
use Rattle.std.proofs.Crossing.{crosses}
use Rattle.rtrb.proofs.end.End.TheSendSync as end
use Rattle.pipe_pump.specs.declared.pipe.PipeIn as PipeIn
use Rattle.pipe_pump.specs.declared.pipe.PipeOut as PipeOut
use Rattle.crossbeam_utils.proofs.sync.parker.RuledUnparker.TheSendSync as unparker
use Rattle.crossbeam_utils.proofs.sync.parker.RuledParker.TheSendSync as parker
use Rattle.pipe_pump.specs.contracts.tap.Tap as Tap
use Rattle.pipe_pump.proofs.tap.Tap.TheSendSync as tap
use Rattle.pipe_pump.specs.contracts.feeder.Feeder as Feeder
use Rattle.pipe_pump.proofs.Crosses.{hand_send}
use Rattle.std_spawner.proofs.Crosses.{out_pump_send}
use Rattle.child_edge.specs.contracts.row.Row as Row
use Rattle.child_edge.specs.contracts.set.ChildSet as ChildSet
use Rattle.socket_set.proofs.client.Client.TheSendSync as client
use Rattle.pipe_pump.specs.contracts.feed_state.FeedState as FeedState
use Rattle.child_edge.specs.declared.kid.Kid as Kid
use Rattle.child_edge.specs.declared.kid.Spawner as Spawner
use Rattle.host_base.specs.declared.traits.Sink as Sink
use Rattle.socket_set.proofs.client.Client.TheSendSync as client
use Rattle.once_edge.specs.contracts.asked.Asked as Asked
use Rattle.once_edge.proofs.asked.Asked.TheSendSync as asked
use Rattle.once_edge.specs.contracts.socket.StdioSocket as StdioSocket
use Rattle.once_edge.specs.contracts.outside.OnceOutside as OnceOutside

pub tap_send : IsSend Tap.the_field.row
tap_send = tap.the_field_send

feed_state_send : IsSend FeedState.the_field.row
feed_state_send = search (sendable, crosses, end.the_send) depth 20

pub feeder_send : IsSend Feeder.the_field.row
feeder_send =
    struct_send (shape Feeder.the_type)
    (feed_state_send, (search (sendable, crosses, end.the_send, hand_send) depth 20, (search (sendable, crosses, unparker.the_field_send) depth 20, tt)))

row_send : (K : RattleType) → IsSend K → IsSend (Row.the_field K).row
row_send K s = search (sendable, crosses, tap_send, feeder_send) depth 60

pub set_send : (S K I O : RattleType) → IsSend S → IsSend K → IsSend (ChildSet.the_field S K I O).row
set_send S K I O s k = search (sendable, crosses, row_send) depth 20

pub socket_send : (P K : RattleType) (g : PipeIn.Ghosts P.Denot) → IsSend P → IsSend K → IsSend (StdioSocket.the_field P K g).row
socket_send P K g s k = search (sendable, crosses, tap_send, out_pump_send) depth 20

asked_send : IsSend Asked.the_field.row
asked_send = asked.the_field_send

pub once_send : (R S P K N I O : RattleType) (gs : Spawner.Ghosts S.Denot N.Denot I.Denot O.Denot) (gn : Kid.Ghosts N.Denot I.Denot O.Denot)
    (gi : PipeOut.Ghosts I.Denot) (go : PipeIn.Ghosts O.Denot) (gp : PipeIn.Ghosts P.Denot) (gk : Sink.Ghosts K.Denot)
    → IsSend R → IsSend S → IsSend P → IsSend K → IsSend N → IsSend (OnceOutside.the_row R S P K N I O gs gn gi go gp gk)
once_send R S P K N I O gs gn gi go gp gk r s p k n =
    search (sendable, crosses, set_send, socket_send, client.the_send, asked_send, parker.the_field_send) depth 60 fits 50000
