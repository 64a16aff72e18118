use Rattle.child_core.proofs.MemoryLaws.{due-may}
use Rattle.child_core.proofs.memory_laws.due_acts_may_come.Goals as goal

pub returns : goal.returns
returns c = due-may
