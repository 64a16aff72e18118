use Rattle.std.proofs.Common.{◌≡◌, ◌+◌, All}
use Rattle.std.specs.Vec.Iter.{into_iter_len, into_iter_items}
use Rattle.edge_loop.specs.Loops.{IsSent}
use Rattle.edge_loop.proofs.stock.take_back.Given as goal

abbrev pub invariant-loop-out : goal.invariant-loop-out
invariant-loop-out g l =
    (l.rest.amount ≡ 0) × (l.rest.parts + into_iter_len l.outs ≡ l.initial.rest.parts + into_iter_len l.initial.outs) × All IsSent (into_iter_items l.outs)

abbrev pub decreases-loop-out : goal.decreases-loop-out
decreases-loop-out g l = into_iter_len l.outs
