use Rattle.std_spawner.specs.Kids.{kid_tells}
use Rattle.once_edge.proofs.Full.{full}
use Rattle.once_edge.proofs.world.RealOutsideOutside.next.Goals as goal

pub returns-clause-full : goal.returns-clause-full
returns-clause-full g c = λ f. full kid_tells c.next_event.result _ _ _ c.next_event.ensures.owed f
