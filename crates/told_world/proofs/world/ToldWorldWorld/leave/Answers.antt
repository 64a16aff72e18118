-- What is given back is joined.
use Rattle.std.proofs.Common.{◌∙◌, ◌++◌, map, ap}
use Rattle.told_world.proofs.ToldLaws.{joins_told}
use Rattle.told_world.proofs.world.ToldWorldWorld.leave.Goals as goal

pub returns-clause-given : goal.returns-clause-given
returns-clause-given g c =
    joins_told (λ o. o.log) c.args.outs.items _ _
    (c.unwrap-back.ensures.given ∙ ap (λ given. given ++ map (λ o. o.log) c.args.outs.items) c.take_room-room.ensures.same.0)
