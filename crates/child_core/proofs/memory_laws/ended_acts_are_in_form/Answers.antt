use Rattle.child_core.proofs.MemoryLaws.{ended-form}
use Rattle.child_core.proofs.memory_laws.ended_acts_are_in_form.Goals as goal

pub returns : goal.returns
returns c = λ early s may v L act k due. ended-form early s v L k may act due
