use Rattle.std.proofs.Common.{arith}
use Rattle.std.proofs.lemmas.List.Elements.{All-get_or, All-set}
use Rattle.edge_loop.proofs.leaving.wait_round.Goals as goal

pub loop-i-preserved : goal.loop-i-preserved
loop-i-preserved g c =
    λ h. All-set g.E.Leaving.is_halted c.loop-i.outs c.loop-i.i c.wait_to_send.new.self
    (c.wait_to_send.ensures (All-get_or g.E.Leaving.is_halted c.loop-i.outs c.loop-i.i c.index-outs-i.result (omega (arith, c.loop-i-test.true, c.loop-i.auto.outs)) (c.loop-i.invariant h)))
    (c.loop-i.invariant h)
