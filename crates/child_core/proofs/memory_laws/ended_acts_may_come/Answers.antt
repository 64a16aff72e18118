use Rattle.child_core.proofs.MemoryLaws.{ended-may}
use Rattle.child_core.proofs.memory_laws.ended_acts_may_come.Goals as goal

pub returns : goal.returns
returns c = λ s still may v L act k due. ended-may s still may v L act k due
