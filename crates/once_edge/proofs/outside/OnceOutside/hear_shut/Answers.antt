use Rattle.once_edge.proofs.Quiet.{later, later_none}
use Rattle.once_edge.proofs.outside.OnceOutside.hear_shut.Goals as goal

pub returns-clause-some : goal.returns-clause-some
returns-clause-some g c = later _ c.hear_end.result _ _ _ (c.send_rest.ensures.quiet, c.send_rest.ensures.counts) c.hear_end.ensures.some

pub returns-clause-none : goal.returns-clause-none
returns-clause-none g c = λ n. later_none _ _ _ _ (c.send_rest.ensures.quiet, c.send_rest.ensures.counts) (c.hear_end.ensures.none n)
