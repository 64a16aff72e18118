use Rattle.std.proofs.Common.{rules, All}
use Rattle.std.proofs.lemmas.List.Elements.{All-nil, All-push}
use Rattle.edge_loop.specs.Loops.{IsLimited, IsFresh, IsSent}
use Rattle.edge_loop.proofs.Fresh.{all_sent}
use Rattle.edge_loop.proofs.stock.give.Goals as goal

pub loop-i-init : goal.loop-i-init
loop-i-init g c = (
  search rules,
  search rules,
  search rules,
  search rules,
  rw c.in-Ok.ensures.items (All-nil (IsLimited c.args.limits.now)),
  rw c.in-Ok.ensures.items (All-nil IsFresh),
  search rules,
)

pub loop-i-preserved : goal.loop-i-preserved
loop-i-preserved g c = (
  search rules,
  search rules,
  search rules,
  search rules,
  rw c.push_reserved.ensures.items (All-push (IsLimited c.args.limits.now) c.loop-i.outs.items c.in-Ok-give_one.out c.loop-i.invariant.4 c.in-Ok-give_one.ensures.limits),
  rw c.push_reserved.ensures.items (All-push IsFresh c.loop-i.outs.items c.in-Ok-give_one.out c.loop-i.invariant.5 c.in-Ok-give_one.ensures.fresh),
  search rules,
)

pub take_back-requires-clause-sent : goal.take_back-requires-clause-sent
take_back-requires-clause-sent g c =
    let all : All IsSent c.loop-i.outs.items = all_sent c.loop-i.outs.items c.loop-i.invariant.5 in
    λ _ _. all
