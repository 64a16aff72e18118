use Rattle.std.proofs.Common.{◌≡◌, ◌+◌, ◌≤◌, ◌++◌, map, vec_len, vec_capacity}
use Rattle.std.specs.Vec.Iter.{into_iter_len, into_iter_items}
use Rattle.real_world.specs.declared.outside.Either.TheVariants.{Serve}
use Rattle.real_world.proofs.sides.put_loops.Given as goal

abbrev pub invariant-loop-one : goal.invariant-loop-one
invariant-loop-one g l =
    (l.outs.items ++ map Serve (into_iter_items l.entered) ≡ l.initial.outs.items ++ map Serve (into_iter_items l.initial.entered))
    × (vec_len l.outs + into_iter_len l.entered ≡ vec_len l.initial.outs + into_iter_len l.initial.entered)
    × (vec_len l.outs + into_iter_len l.entered ≤ vec_capacity l.outs)

abbrev pub decreases-loop-one : goal.decreases-loop-one
decreases-loop-one g l = into_iter_len l.entered
