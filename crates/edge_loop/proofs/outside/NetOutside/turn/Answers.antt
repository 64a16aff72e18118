use Rattle.std.proofs.Common.{refl}
use Rattle.edge_loop.proofs.Quiet.{later_none}
use Rattle.edge_loop.proofs.outside.NetOutside.turn.Goals as goal

pub returns-in-None-clause-none : goal.returns-in-None-clause-none
returns-in-None-clause-none g c =
    λ _. later_none g.S.Kid.Kid.tells _ _ _ (c.hear.ensures.none (rw c.in-None.is refl)) (c.rest.ensures.quiet, c.rest.ensures.counts)
