use Rattle.real_world.proofs.world.RealWorld.end_all.Goals as goal

pub returns-clause-halted : goal.returns-clause-halted
returns-clause-halted g c = c.send_all.ensures.halted c.halt_all.ensures
