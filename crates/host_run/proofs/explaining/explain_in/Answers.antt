-- The one outside that came out is given back.
use Rattle.std.proofs.Common.{length, ◌≡◌, arith}
use Rattle.host_run.proofs.JoinLaws.{joined_one}
use Rattle.host_run.proofs.ExplainLaws.{gave_asking}
use Rattle.host_run.proofs.explaining.explain_in.Goals as goal

pub returns-clause-gives : goal.returns-clause-gives
returns-clause-gives g c = λ now told.
    let l : length c.in-Ok.outs.items ≡ 1 = omega (arith, c.in-Ok.ensures.count) in
    rw (← c.enter.ensures.given) (gave_asking _ _ _ now c.explain_one-end.ensures.asks c.explain_one-end.ensures.ends (joined_one g.W.Out.Outside.trace c.in-Ok.outs.items c.explain_one-end.new.out _ now l (c.leave.ensures.given now told)))
