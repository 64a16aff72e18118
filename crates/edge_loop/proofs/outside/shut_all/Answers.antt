use Rattle.std.proofs.Common.{arith}
use Rattle.edge_loop.proofs.Closing.{none_closed, one_closed}
use Rattle.edge_loop.proofs.outside.shut_all.Goals as goal

pub loop-c-init : goal.loop-c-init
loop-c-init g c = none_closed _ _ c.next_from-c.ensures.none c.next_from-c.ensures.most

pub loop-c-preserved : goal.loop-c-preserved
loop-c-preserved g c =
    one_closed _ _ _ _ _ c.loop-c.invariant c.shut_one.ensures c.next_from-c-in-loop-c.ensures.none c.next_from-c-in-loop-c.ensures.most

pub returns-clause-shut : goal.returns-clause-shut
returns-clause-shut g c = λ d l. c.loop-c.invariant.shut d (omega (arith, l, c.loop-c-test.false, c.accepted.ensures))
