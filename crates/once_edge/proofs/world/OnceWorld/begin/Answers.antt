use Rattle.std.proofs.Common.{◌≡◌}
use Rattle.once_edge.specs.Once.{IsFresh}
use Rattle.once_edge.proofs.Full.{all_only}
use Rattle.once_edge.proofs.world.OnceWorld.begin.Goals as goal

pub returns-clause-limit : goal.returns-clause-limit
returns-clause-limit g c = all_only (λ v. v.items) (λ o. o.limit ≡ c.args.site.now.limits.children) _ c.only.result c.in_ok-outside.ensures.limit c.only.ensures

pub returns-clause-room : goal.returns-clause-room
returns-clause-room g c = all_only (λ v. v.items) (λ o. o.room ≡ c.args.site.now.limits.connections) _ c.only.result c.in_ok-outside.ensures.room c.only.ensures

pub returns-clause-fresh : goal.returns-clause-fresh
returns-clause-fresh g c = all_only (λ v. v.items) IsFresh _ c.only.result c.in_ok-outside.ensures.fresh c.only.ensures
