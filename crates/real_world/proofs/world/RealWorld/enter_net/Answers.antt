use Rattle.real_world.proofs.SideLaws.{all_loops, fresh_loops}
use Rattle.real_world.proofs.world.RealWorld.enter_net.Goals as goal

pub returns-in-Ok-enter-clause-limit : goal.returns-in-Ok-enter-clause-limit
returns-in-Ok-enter-clause-limit g c =
    all_loops c.args.site.now.limits _ _ _ c.in-Ok.ensures.items c.put_loops.ensures.items c.in-Ok-enter.ensures.limits

pub returns-in-Ok-enter-clause-entered : goal.returns-in-Ok-enter-clause-entered
returns-in-Ok-enter-clause-entered g c = fresh_loops _ _ _ c.in-Ok.ensures.items c.put_loops.ensures.items c.in-Ok-enter.ensures.fresh
