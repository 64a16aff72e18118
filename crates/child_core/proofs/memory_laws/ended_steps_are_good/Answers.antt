use Rattle.child_core.proofs.MemoryLaws.{ended-good}
use Rattle.child_core.proofs.memory_laws.ended_steps_are_good.Goals as goal

pub returns : goal.returns
returns c = ended-good
