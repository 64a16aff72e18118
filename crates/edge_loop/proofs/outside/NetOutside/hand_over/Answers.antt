use Rattle.std.proofs.Common.{refl}
use Rattle.edge_loop.proofs.Handed.{one_handed}
use Rattle.edge_loop.proofs.Quiet.{counts_two}
use Rattle.edge_loop.proofs.outside.NetOutside.hand_over.Goals as goal

pub loop-self-preserved : goal.loop-self-preserved
loop-self-preserved g c =
    let step = c.in_default.ensures.handed refl in (
      one_handed g.S.Kid.Kid.tells _ _ _ c.loop-self.invariant.0 step,
      counts_two _ _ _ c.loop-self.invariant.1 c.start_first.ensures.counts,
      step.unstarted,
    )
