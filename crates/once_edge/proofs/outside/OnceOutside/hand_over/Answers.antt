use Rattle.std.proofs.Common.{◌∙◌, refl}
use Rattle.once_edge.proofs.Handed.{one_handed}
use Rattle.once_edge.proofs.Quiet.{counts_two}
use Rattle.once_edge.proofs.outside.OnceOutside.hand_over.Goals as goal

pub loop-self-preserved : goal.loop-self-preserved
loop-self-preserved g c =
    let step = c.in_default.ensures.handed refl in (
      one_handed g.S.Kid.Kid.tells _ _ _ c.loop-self.invariant.0 step,
      counts_two _ _ _ c.loop-self.invariant.1 c.start_first.ensures.counts,
      step.unstarted,
      step.rest.peer ∙ c.loop-self.invariant.3,
    )
