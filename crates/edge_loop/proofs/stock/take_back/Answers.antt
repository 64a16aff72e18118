use Rattle.std.proofs.Common.{refl, sym, All, subst, arith, rules}
use Rattle.edge_loop.specs.Loops.{IsSent}
use Rattle.edge_loop.proofs.Fresh.{first_sent, rest_sent}
use Rattle.edge_loop.proofs.stock.take_back.Goals as goal

pub loop-out-init : goal.loop-out-init
loop-out-init g c = (c.requires.none, refl, subst (λ w. All IsSent w) (sym c.into_iter-outs.ensures.rest) c.requires.sent)

pub give_back-requires-after_bounds : goal.give_back-requires-after_bounds
give_back-requires-after_bounds g c =
    let first : IsSent c.in-Some.out = first_sent c.in-Some.out c.next.result _ _ c.next.ensures.items c.in-Some.is c.loop-out.invariant.2 in
    λ _ _. first

pub loop-out-preserved : goal.loop-out-preserved
loop-out-preserved g c = (
  omega (arith, c.merge.ensures.amount, c.give_back.ensures.none, c.loop-out.invariant.0),
  search rules,
  rest_sent c.in-Some.out c.next.result _ _ c.next.ensures.items c.in-Some.is c.loop-out.invariant.2,
)
