use Rattle.std.proofs.Common.{arith}
use Rattle.socket_set.proofs.Each.{none_below, one_below}
use Rattle.socket_set.proofs.set.SocketSet.end_hearing.Goals as goal

pub loop-c-init : goal.loop-c-init
loop-c-init g c = none_below _ _ _ c.next_from-c.ensures.none c.next_from-c.ensures.most

pub loop-c-preserved : goal.loop-c-preserved
loop-c-preserved g c =
    one_below _ _ _ _ _ _ c.loop-c.invariant c.end_hearing_of.ensures c.next_from-c-in-loop-c.ensures.none (c.next_from-c-in-loop-c.ensures.least (omega (arith, c.loop-c-test.true, c.accepted.ensures, c.end_hearing_of.ensures.one.counts.accepted))) c.next_from-c-in-loop-c.ensures.most
