-- What was dropped so far changed nothing but counts.
use Rattle.std.proofs.Common.{◌≡◌, ◌≤◌}
use Rattle.told_outside.proofs.outside.ToldOutside.wait_for_next.Given as goal

abbrev pub invariant-loop : goal.invariant-loop
invariant-loop g l =
    (l.self.log ≡ l.fn.self.log)
    × (l.self.limit ≡ l.fn.self.limit)
    × (g.O.Outside.limit l.self.inner ≡ g.O.Outside.limit l.fn.self.inner)
    × (g.O.Outside.faults l.fn.self.inner ≤ g.O.Outside.faults l.self.inner)
    × (g.O.Outside.full_books l.fn.self.inner ≤ g.O.Outside.full_books l.self.inner)
