-- The traces given back are those of the outsides below.
use Rattle.std.proofs.Common.{map, subst}
use Rattle.host_trace.specs.Told.{Joins}
use Rattle.log_outside.proofs.MoveLaws.{map_over}
use Rattle.log_outside.proofs.world.LogWorldWorld.leave.Goals as goal

pub returns-clause-given : goal.returns-clause-given
returns-clause-given g c =
    subst (λ traces. Joins (g.W.World.given c.args.self.now.inner) traces (g.W.World.given c.leave.new.self))
    (map_over (λ o. g.O.Outside.trace o) (λ o. o.inner) c.args.outs.items c.unwrap-back.result.items c.unwrap-back.ensures.those)
    (subst (λ w. Joins (g.W.World.given w) (map (λ o. g.O.Outside.trace o) c.unwrap-back.result.items) (g.W.World.given c.leave.new.self)) c.take_room-room.ensures.same c.leave.ensures.given)
