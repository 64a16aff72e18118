use Rattle.std.proofs.Common.{◌≡◌, [], rules}
use Rattle.rtrb.specs.Ring.{received}
use Rattle.pipe_pump.proofs.Fronts.{marked_before}
use Rattle.pipe_pump.proofs.to_pipe.take_hand.Goals as goal

pub unreachable-requires : goal.unreachable-requires
unreachable-requires c =
    let e : received c.args.hand.now ≡ [] = search (rules, c.in-Ok-Mark.ensures.ok) in marked_before (received c.args.hand.now) c.requires.0 e
