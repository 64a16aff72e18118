use Rattle.std.proofs.Common.{refl}
use Rattle.edge_loop.proofs.Quiet.{quiet_self, counts_self, later_none, heard_later, counted_later}
use Rattle.edge_loop.proofs.outside.NetOutside.wait_for_event.Goals as goal

pub loop-init : goal.loop-init
loop-init g c = (quiet_self _ _, counts_self _)

pub returns-in-Some-turn-clause-heard : goal.returns-in-Some-turn-clause-heard
returns-in-Some-turn-clause-heard g c = heard_later _ _ _ _ _ c.loop.invariant.0 (rw c.in-Some-turn.is at c.turn.ensures.some).0

pub returns-in-Some-turn-clause-counted : goal.returns-in-Some-turn-clause-counted
returns-in-Some-turn-clause-counted g c = counted_later _ _ _ _ c.loop.invariant.1 (rw c.in-Some-turn.is at c.turn.ensures.some).1

pub loop-preserved : goal.loop-preserved
loop-preserved g c = later_none _ _ _ _ c.loop.invariant (c.turn.ensures.none (rw c.in-None-turn.is refl))
