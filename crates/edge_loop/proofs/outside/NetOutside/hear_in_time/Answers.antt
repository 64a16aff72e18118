use Rattle.std.proofs.Common.{refl}
use Rattle.edge_loop.proofs.Quiet.{any_later, later_none}
use Rattle.edge_loop.proofs.outside.NetOutside.hear_in_time.Goals as goal

pub returns-in-None-clause-some : goal.returns-in-None-clause-some
returns-in-None-clause-some g c =
    let q = c.hear_tick.ensures.none (rw c.in-None.is refl) in
    any_later g.S.Kid.Kid.tells c.hear_rest.result _ _ _ q.0 q.1 c.hear_rest.ensures.some

pub returns-in-None-clause-none : goal.returns-in-None-clause-none
returns-in-None-clause-none g c =
    λ n. later_none g.S.Kid.Kid.tells _ _ _ (c.hear_tick.ensures.none (rw c.in-None.is refl)) (c.hear_rest.ensures.none n)
