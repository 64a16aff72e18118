-- Those so far are new, and there is room for the rest.
use Rattle.std.proofs.Common.{◌≡◌, ◌+◌, ◌≤◌, [], All, vec_len, vec_capacity}
use Rattle.std.specs.Vec.Iter.{into_iter_len, into_iter_items}
use Rattle.told_world.proofs.moves.wrap.Given as goal

abbrev pub invariant-loop-one : goal.invariant-loop-one
invariant-loop-one g l =
    All (λ o. (o.log ≡ []) × (o.limit ≡ l.limit)) l.outs.items
    × All (λ o. g.O.Outside.limit o ≡ l.limit) (into_iter_items l.entered)
    × (vec_len l.outs + into_iter_len l.entered ≡ vec_len l.initial.outs + into_iter_len l.initial.entered)
    × (vec_len l.outs + into_iter_len l.entered ≤ vec_capacity l.outs)

abbrev pub decreases-loop-one : goal.decreases-loop-one
decreases-loop-one g l = into_iter_len l.entered
