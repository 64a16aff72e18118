use Rattle.std.proofs.Common.{refl}
use Rattle.once_edge.proofs.Quiet.{client_quiet, client_counts, client_said, counted_client}
use Rattle.once_edge.proofs.outside.OnceOutside.hear_client.Goals as goal

pub returns-clause-some : goal.returns-clause-some
returns-clause-some g c =
    (client_said g.S.Kid.Kid.tells _ _ _ _ c.in_ok-event.ensures.some c.count_failure.ensures.same, counted_client _ _ _ _ _ c.in_ok-event.ensures.some c.count_failure.ensures.counted)

pub returns-in_err-event-clause-none : goal.returns-in_err-event-clause-none
returns-in_err-event-clause-none g c = λ n.
    let quiet = c.in_err-event.ensures.none refl in
    (client_quiet g.S.Kid.Kid.tells _ _ quiet, client_counts _ _ _ quiet)
