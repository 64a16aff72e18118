-- Those so far are new, and there are kits and room for the rest.
use Rattle.std.proofs.Common.{◌≡◌, ◌+◌, ◌≤◌, [], All, List, Option, Some, vec_len, vec_capacity}
use Rattle.std.specs.Vec.Iter.{into_iter_len, into_iter_items}
use Rattle.host_trace.specs.declared.items.Item.{Item}
use Rattle.host_trace.specs.Told.{IsNew}
use Rattle.doc_world.proofs.kits.wrap.Given as goal

abbrev pub invariant-loop-inner : goal.invariant-loop-inner
invariant-loop-inner g l = record {
  told : All (λ o. (o.told.tells ≡ l.tells) × (o.told.items.items ≡ []) × (g.O.Outside.limit o.inner ≡ l.limit)) l.outs.items;
  new : (given : Option (List (List Item))) → All (λ o. IsNew given (g.O.Outside.trace o)) (into_iter_items l.initial.entered) → All (λ o. IsNew given (g.O.Outside.trace o.inner)) l.outs.items × All (λ o. IsNew given (g.O.Outside.trace o)) (into_iter_items l.entered);
  fresh : All (λ o. (T : List Item) → g.O.Outside.trace o ≡ Some T → T ≡ []) (into_iter_items l.entered);
  limited : All (λ o. g.O.Outside.limit o ≡ l.limit) (into_iter_items l.entered);
  made : All (λ kit. (kit.told.tells ≡ l.tells) × (kit.told.items.items ≡ []) × (kit.single.items ≡ []) × (1 ≤ vec_capacity kit.single)) l.kits.items;
  count : vec_len l.kits ≡ into_iter_len l.entered;
  len : vec_len l.outs + into_iter_len l.entered ≡ into_iter_len l.initial.entered;
  room : vec_len l.outs + into_iter_len l.entered ≤ vec_capacity l.outs;
}

abbrev pub decreases-loop-inner : goal.decreases-loop-inner
decreases-loop-inner g l = into_iter_len l.entered
