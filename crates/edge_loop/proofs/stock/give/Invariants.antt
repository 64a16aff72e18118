use Rattle.std.proofs.Common.{◌≡◌, ◌+◌, ◌≤◌, All, vec_len, vec_capacity}
use Rattle.edge_loop.specs.Loops.{IsLimited, IsFresh}
use Rattle.edge_loop.proofs.stock.give.Given as goal

abbrev pub invariant-loop-i : goal.invariant-loop-i
invariant-loop-i g l =
    (l.rest.amount ≡ 0) × (l.rest.parts + l.i ≡ l.initial.rest.parts) × (vec_len l.outs ≡ l.i) × (l.loops ≤ vec_capacity l.outs)
    × All (IsLimited l.limits) l.outs.items × All IsFresh l.outs.items × (g.M.Maker.faults l.initial.maker ≤ g.M.Maker.faults l.maker)
