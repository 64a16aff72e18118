use Rattle.child_core.proofs.MemoryLaws.{due-form}
use Rattle.child_core.proofs.memory_laws.due_acts_are_in_form.Goals as goal

pub returns : goal.returns
returns c = λ early s may v L act k due. due-form early s v L k may act due
