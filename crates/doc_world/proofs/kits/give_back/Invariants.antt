-- The store holds what it did, and those that are left can be let go.
use Rattle.std.proofs.Common.{◌≡◌, [], All}
use Rattle.std.specs.Vec.Iter.{into_iter_len, into_iter_items}
use Rattle.doc_world.proofs.kits.give_back.Given as goal

abbrev pub invariant-loop-kit : goal.invariant-loop-kit
invariant-loop-kit g l =
    (g.D.DocStore.held l.store ≡ g.D.DocStore.held l.initial.store)
    × All (λ kit. kit.single.items ≡ []) (into_iter_items l.kits)

abbrev pub decreases-loop-kit : goal.decreases-loop-kit
decreases-loop-kit g l = into_iter_len l.kits
