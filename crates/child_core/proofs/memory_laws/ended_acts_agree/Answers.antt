use Rattle.child_core.proofs.MemoryLaws.{ended-agrees}
use Rattle.child_core.proofs.memory_laws.ended_acts_agree.Goals as goal

pub returns : goal.returns
returns c = ended-agrees
