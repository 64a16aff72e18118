-- What holds of the outsides below holds of those over them.
use Rattle.host_trace.specs.Told.{IsNew}
use Rattle.std.proofs.Common.{◌≡◌}
use Rattle.log_outside.proofs.MoveLaws.{all_over}
use Rattle.log_outside.proofs.world.LogWorldWorld.enter.Goals as goal

pub returns-in-Ok-clause-told : goal.returns-in-Ok-clause-told
returns-in-Ok-clause-told g c =
    all_over (λ o. IsNew (g.W.World.given c.args.self.now.inner) (g.O.Outside.trace o)) (λ o. o.inner) c.wrap.result.items c.in-Ok.entered.items
    c.wrap.ensures.those c.in-Ok.ensures.told

pub returns-in-Ok-clause-limit : goal.returns-in-Ok-clause-limit
returns-in-Ok-clause-limit g c =
    all_over (λ o. g.O.Outside.limit o ≡ c.args.site.now.limits.children) (λ o. o.inner) c.wrap.result.items c.in-Ok.entered.items
    c.wrap.ensures.those c.in-Ok.ensures.limit
