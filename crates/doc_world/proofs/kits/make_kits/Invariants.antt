-- Those so far are made, and there is room for the rest.
use Rattle.std.proofs.Common.{◌≡◌, ◌+◌, ◌≤◌, [], All, vec_len, vec_capacity}
use Rattle.doc_world.proofs.kits.make_kits.Given as goal

abbrev pub invariant-loop : goal.invariant-loop
invariant-loop g l = record {
  made : All (λ kit. (kit.told.tells ≡ l.telling.tells) × (kit.told.items.items ≡ []) × (kit.single.items ≡ []) × (1 ≤ vec_capacity kit.single) × (kit.docs ≡ l.docs)) l.kits.items;
  held : g.D.DocStore.held l.store ≡ g.D.DocStore.held l.initial.store;
  len : vec_len l.kits ≡ l.counter;
  room : l.loops ≤ vec_capacity l.kits;
}
