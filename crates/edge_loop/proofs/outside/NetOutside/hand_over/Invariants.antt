use Rattle.std.proofs.Common.{◌≡◌, None, length}
use Rattle.child_edge.specs.Starts.{Repeats}
use Rattle.edge_loop.specs.Loops.{HandsOver, Counts}
use Rattle.edge_loop.proofs.outside.NetOutside.hand_over.Given as goal

abbrev pub invariant-loop-self : goal.invariant-loop-self
invariant-loop-self g l =
    Repeats (HandsOver g.S.Kid.Kid.tells) l.fn.self l.self × Counts l.fn.self l.self × (l.self.unstarted ≡ None)

abbrev pub decreases-loop-self : goal.decreases-loop-self
decreases-loop-self g l = length l.self.starts
