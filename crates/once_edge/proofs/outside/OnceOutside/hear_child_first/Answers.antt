use Rattle.std.proofs.Common.{refl}
use Rattle.once_edge.proofs.Quiet.{later, later_none}
use Rattle.once_edge.proofs.outside.OnceOutside.hear_child_first.Goals as goal

pub returns-in-None-clause-some : goal.returns-in-None-clause-some
returns-in-None-clause-some g c = later _ c.hear_rest.result _ _ _ (c.hear_child.ensures.none (rw c.in-None.is refl)) c.hear_rest.ensures.some

pub returns-in-None-clause-none : goal.returns-in-None-clause-none
returns-in-None-clause-none g c = λ n. later_none _ _ _ _ (c.hear_child.ensures.none (rw c.in-None.is refl)) (c.hear_rest.ensures.none n)
