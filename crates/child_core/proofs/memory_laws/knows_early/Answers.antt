use Rattle.child_core.proofs.MemoryLaws.{knows-early}
use Rattle.child_core.proofs.memory_laws.knows_early.Goals as goal

pub returns : goal.returns
returns c = knows-early
