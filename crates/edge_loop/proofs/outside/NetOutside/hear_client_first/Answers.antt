use Rattle.std.proofs.Common.{refl}
use Rattle.edge_loop.proofs.Quiet.{child_later_some, later_none}
use Rattle.edge_loop.proofs.outside.NetOutside.hear_client_first.Goals as goal

pub returns-in-None-clause-some : goal.returns-in-None-clause-some
returns-in-None-clause-some g c =
    let q = c.hear_client.ensures.none (rw c.in-None.is refl) in
    child_later_some g.S.Kid.Kid.tells c.hear_child.result _ _ _ q.0 q.1 c.hear_child.ensures.some

pub returns-in-None-clause-none : goal.returns-in-None-clause-none
returns-in-None-clause-none g c =
    λ n. later_none g.S.Kid.Kid.tells _ _ _ (c.hear_client.ensures.none (rw c.in-None.is refl)) (c.hear_child.ensures.none n)
