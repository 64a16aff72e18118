use Rattle.std.proofs.Common.{◌≡◌, None, length}
use Rattle.child_edge.specs.Starts.{Repeats}
use Rattle.once_edge.specs.Once.{HandsOver, Counts}
use Rattle.once_edge.proofs.outside.OnceOutside.hand_over.Given as goal

abbrev pub invariant-loop-self : goal.invariant-loop-self
invariant-loop-self g l =
    Repeats (HandsOver g.S.Kid.Kid.tells) l.fn.self l.self × Counts l.fn.self l.self × (l.self.unstarted ≡ None)
    × (l.self.peer ≡ None)

abbrev pub decreases-loop-self : goal.decreases-loop-self
decreases-loop-self g l = length l.self.starts
