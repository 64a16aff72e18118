use Rattle.child_core.proofs.MemoryLaws.{knows-shut}
use Rattle.child_core.proofs.memory_laws.knows_shut.Goals as goal

pub returns : goal.returns
returns c = knows-shut
