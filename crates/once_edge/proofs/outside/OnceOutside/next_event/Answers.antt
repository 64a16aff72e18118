use Rattle.std.proofs.Common.{inr, refl}
use Rattle.once_edge.proofs.Quiet.{counted_later}
use Rattle.once_edge.proofs.outside.OnceOutside.next_event.Goals as goal

pub returns-clause-owed : goal.returns-clause-owed
returns-clause-owed g c =
    inr (record { mid = _; before = c.in_default.ensures.handed refl; after = c.wait_for_event.ensures.heard })

pub returns-clause-counted : goal.returns-clause-counted
returns-clause-counted g c = counted_later _ _ _ _ c.tell_due.ensures.counts c.wait_for_event.ensures.counted
