use Rattle.trace_child.proofs.DecidedLaws.{outcome_of-stays}
use Rattle.trace_child.proofs.laws.outcomes_stay.Goals as goal

pub returns : goal.returns
returns c = outcome_of-stays
