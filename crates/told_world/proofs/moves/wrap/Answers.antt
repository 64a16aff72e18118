-- One more is put among those that are new.
use Rattle.std.proofs.Common.{◌≡◌, [], sym, subst, All, arith}
use Rattle.std.specs.Vec.Iter.{into_iter_items}
use Rattle.std.proofs.lemmas.List.Elements.{All-push, All-rest}
use Rattle.told_world.proofs.moves.wrap.Goals as goal

pub loop-one-preserved : goal.loop-one-preserved
loop-one-preserved g c = (
  subst (λ xs. All (λ o. (o.log ≡ []) × (o.limit ≡ c.args.limit)) xs) (sym c.push_reserved.ensures.items)
      (All-push (λ o. (o.log ≡ []) × (o.limit ≡ c.args.limit)) c.loop-one.outs.items c.new.result c.loop-one.invariant.0 (c.new.ensures.told, c.new.ensures.limit)),
  All-rest (λ o. g.O.Outside.limit o ≡ c.args.limit) c.in-Some.one (into_iter_items c.next.new.self) (into_iter_items c.loop-one.entered) c.in-Some.ensures.items c.loop-one.invariant.1,
  omega (arith, c.loop-one.invariant.2, c.push_reserved.ensures.len, c.in-Some.ensures.len),
  omega (arith, c.loop-one.invariant.3, c.push_reserved.ensures.len, c.push_reserved.ensures.capacity, c.in-Some.ensures.len),
)
