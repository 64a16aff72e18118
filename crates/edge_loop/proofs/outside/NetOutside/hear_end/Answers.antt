use Rattle.edge_loop.proofs.Stops.{stop_told, stop_counted}
use Rattle.edge_loop.proofs.outside.NetOutside.hear_end.Goals as goal

pub returns-then-is_stop_due-clause-some : goal.returns-then-is_stop_due-clause-some
returns-then-is_stop_due-clause-some g c =
    rw c.stop.ensures.event (
      stop_told g.S.Kid.Kid.tells c.args.self.now c.stop.new.self c.stop.ensures.told (c.is_stop_due.ensures c.if-is_stop_due.true),
      stop_counted c.args.self.now c.stop.new.self c.stop.ensures.told,
    )
