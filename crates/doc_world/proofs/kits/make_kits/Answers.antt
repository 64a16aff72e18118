-- One more is made.
use Rattle.std.proofs.Common.{◌≡◌, ◌≤◌, ◌∙◌, [], sym, subst, All, arith, vec_capacity}
use Rattle.std.proofs.lemmas.List.Elements.{All-push}
use Rattle.doc_world.proofs.kits.make_kits.Goals as goal

pub push_reserved-requires : goal.push_reserved-requires
push_reserved-requires g c = omega (arith, c.loop.invariant.len, c.loop.invariant.room, c.loop-test.true)

pub loop-preserved : goal.loop-preserved
loop-preserved g c = record {
  made =
      subst (λ kits. All (λ kit. (kit.told.tells ≡ c.args.telling.tells) × (kit.told.items.items ≡ []) × (kit.single.items ≡ []) × (1 ≤ vec_capacity kit.single) × (kit.docs ≡ c.args.docs.now)) kits)
      (sym c.push_reserved.ensures.items)
      (All-push (λ kit. (kit.told.tells ≡ c.args.telling.tells) × (kit.told.items.items ≡ []) × (kit.single.items ≡ []) × (1 ≤ vec_capacity kit.single) × (kit.docs ≡ c.args.docs.now))
      c.loop.kits.items c.in-Ok-make_kit.kit c.loop.invariant.made c.in-Ok-make_kit.ensures.made);
  held = c.make_kit.ensures.same ∙ c.loop.invariant.held;
  len = omega (arith, c.loop.invariant.len, c.push_reserved.ensures.len);
  room = omega (arith, c.loop.invariant.room, c.push_reserved.ensures.capacity);
}

pub returns-clause-count : goal.returns-clause-count
returns-clause-count g c = omega (arith, c.loop.invariant.len, c.loop.auto.counter-end, c.loop-test.false)
