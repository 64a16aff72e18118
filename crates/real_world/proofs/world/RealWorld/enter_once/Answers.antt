use Rattle.real_world.proofs.SideLaws.{all_once, fresh_once}
use Rattle.real_world.proofs.world.RealWorld.enter_once.Goals as goal

pub returns-in-Ok-enter_once-clause-limit : goal.returns-in-Ok-enter_once-clause-limit
returns-in-Ok-enter_once-clause-limit g c =
    all_once c.args.site.now.limits.children _ _ _ c.in-Ok.ensures.items c.put_once.ensures.items c.in-Ok-enter_once.ensures.limit

pub returns-in-Ok-enter_once-clause-entered : goal.returns-in-Ok-enter_once-clause-entered
returns-in-Ok-enter_once-clause-entered g c = fresh_once _ _ _ c.in-Ok.ensures.items c.put_once.ensures.items c.in-Ok-enter_once.ensures.fresh
