-- Those so far are in their order, and there is room for the rest.
use Rattle.std.proofs.Common.{◌≡◌, ◌+◌, ◌≤◌, ◌++◌, map, vec_len, vec_capacity}
use Rattle.std.specs.Vec.Iter.{into_iter_len, into_iter_items}
use Rattle.log_outside.proofs.moves.unwrap.Given as goal

abbrev pub invariant-loop-out : goal.invariant-loop-out
invariant-loop-out g l =
    (l.room.items ++ map (λ o. o.inner) (into_iter_items l.outs) ≡ l.initial.room.items ++ map (λ o. o.inner) (into_iter_items l.initial.outs))
    × (vec_len l.room + into_iter_len l.outs ≡ vec_len l.initial.room + into_iter_len l.initial.outs)
    × (vec_len l.room + into_iter_len l.outs ≤ vec_capacity l.room)

abbrev pub decreases-loop-out : goal.decreases-loop-out
decreases-loop-out g l = into_iter_len l.outs
