use Rattle.child_core.proofs.MemoryLaws.{piece-front}
use Rattle.child_core.proofs.memory_laws.pieces_are_fronts.Goals as goal

pub returns : goal.returns
returns c = piece-front
