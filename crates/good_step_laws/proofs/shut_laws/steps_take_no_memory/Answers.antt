use Rattle.good_step_laws.proofs.Shuts.MemoryLaws.{steps_take_no_memory}
use Rattle.good_step_laws.proofs.shut_laws.steps_take_no_memory.Goals as goal

pub returns : goal.returns
returns c = steps_take_no_memory
