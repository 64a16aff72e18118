-- Those so far are in their order, and there is room for the rest.
use Rattle.std.proofs.Common.{◌≡◌, ◌+◌, ◌≤◌, ◌++◌, map, vec_len, vec_capacity}
use Rattle.std.specs.Vec.Iter.{into_iter_len, into_iter_items}
use Rattle.log_outside.proofs.moves.wrap.Given as goal

abbrev pub invariant-loop-one : goal.invariant-loop-one
invariant-loop-one g l =
    (map (λ o. o.inner) l.outs.items ++ into_iter_items l.entered ≡ map (λ o. o.inner) l.initial.outs.items ++ into_iter_items l.initial.entered)
    × (vec_len l.outs + into_iter_len l.entered ≡ vec_len l.initial.outs + into_iter_len l.initial.entered)
    × (vec_len l.outs + into_iter_len l.entered ≤ vec_capacity l.outs)

abbrev pub decreases-loop-one : goal.decreases-loop-one
decreases-loop-one g l = into_iter_len l.entered
