use Rattle.child_core.proofs.MemoryLaws.{ended-known}
use Rattle.child_core.proofs.memory_laws.ended_steps_are_known.Goals as goal

pub returns : goal.returns
returns c = ended-known
