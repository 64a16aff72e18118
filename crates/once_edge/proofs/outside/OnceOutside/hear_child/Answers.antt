use Rattle.std.proofs.Common.{refl}
use Rattle.once_edge.proofs.Quiet.{child_quiet, child_counts, child_said, counted_child}
use Rattle.once_edge.proofs.outside.OnceOutside.hear_child.Goals as goal

pub returns-clause-some : goal.returns-clause-some
returns-clause-some g c =
    (child_said g.S.Kid.Kid.tells _ _ _ _ c.in_ok-event.ensures.some c.count_failure.ensures.same, counted_child _ _ _ _ _ c.in_ok-event.ensures.some c.count_failure.ensures.counted)

pub returns-in_err-event-clause-none : goal.returns-in_err-event-clause-none
returns-in_err-event-clause-none g c = λ n.
    let quiet = c.in_err-event.ensures.none refl in
    (child_quiet g.S.Kid.Kid.tells _ _ quiet, child_counts _ _ _ quiet)
