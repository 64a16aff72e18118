use Rattle.edge_loop.proofs.Causes.{order_counts}
use Rattle.edge_loop.proofs.Quiet.{counted_later}
use Rattle.edge_loop.proofs.outside.NetOutside.next_event.Goals as goal

pub returns-clause-owed : goal.returns-clause-owed
returns-clause-owed g c = record { mid = _; ordered = c.take_order.ensures; owed = c.tell.ensures.owed }

pub returns-clause-counted : goal.returns-clause-counted
returns-clause-counted g c = counted_later _ _ _ _ (order_counts _ _ c.take_order.ensures) c.tell.ensures.counted
