use Rattle.std.proofs.Common.{◌≡◌, ◌≤◌, ◌+◌, ◌%◌, ◌^◌, vec_len}
use Rattle.child_edge.proofs.set.ChildSet.give_back.Given as goal

abbrev pub invariant-loop-row : goal.invariant-loop-row
invariant-loop-row g l =
    (l.self.cap ≡ l.initial.self.cap)
    × (l.self.counts ≡ l.initial.self.counts)
    × (g.S.Spawner.faults l.initial.self.spawner ≤ g.S.Spawner.faults l.self.spawner)
    × ((g.S.Spawner.taken l.self.spawner + vec_len l.self.rows) % 2 ^ 64 ≡ (g.S.Spawner.taken l.initial.self.spawner + vec_len l.initial.self.rows) % 2 ^ 64)

abbrev pub decreases-loop-row : goal.decreases-loop-row
decreases-loop-row g l = vec_len l.self.rows
