use Rattle.once_edge.proofs.Full.{limit_of, room_of, fresh_of}
use Rattle.once_edge.proofs.world.join.Goals as goal

pub returns-clause-limit : goal.returns-clause-limit
returns-clause-limit g c = limit_of _ _ _ c.new-2.result c.new-2.ensures.new

pub returns-clause-room : goal.returns-clause-room
returns-clause-room g c = room_of _ _ c.new-2.result c.in_ok-children.ensures.cap c.new-2.ensures.room

pub returns-clause-fresh : goal.returns-clause-fresh
returns-clause-fresh g c = fresh_of _ _ _ c.new-2.result c.in_ok-peer.ensures c.new-2.ensures.new
