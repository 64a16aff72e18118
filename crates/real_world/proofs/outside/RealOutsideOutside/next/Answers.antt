use Rattle.std_spawner.specs.Kids.{kid_tells}
use Rattle.once_edge.proofs.Full.{full}
use Rattle.real_world.proofs.outside.RealOutsideOutside.next.Goals as goal

pub returns-in-Once-clause-full : goal.returns-in-Once-clause-full
returns-in-Once-clause-full g c = λ f. full kid_tells c.next_event.result _ _ _ c.next_event.ensures.owed f
