use Rattle.child_core.proofs.MemoryLaws.{acting-due}
use Rattle.child_core.proofs.memory_laws.acts_are_due.Goals as goal

pub returns : goal.returns
returns c = acting-due
