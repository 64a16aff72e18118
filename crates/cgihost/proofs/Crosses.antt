-- What may cross threads.
use denote.RattleType.{RattleType}
use denote.Param.Send.{IsSend, sendable}
use Rattle.std.proofs.Crossing.{crosses}
use Rattle.net_sockets.proofs.poll.CountedPoll.TheSendSync as poll
use Rattle.net_sockets.proofs.listener.Listener.TheSendSync as listener
use Rattle.net_sockets.proofs.share.Share.TheSendSync as share
use Rattle.net_sockets.specs.contracts.ports.NetPorts as NetPorts

pub ports_send : (R : RattleType) → IsSend R → IsSend (NetPorts.the_field R).row
ports_send R r = search (sendable, crosses, poll.the_field_send, listener.the_send, share.the_field_send) depth 40 fits 20000
