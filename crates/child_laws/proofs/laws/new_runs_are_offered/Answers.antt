use Rattle.child_laws.proofs.DrainLaws.{new_offered}
use Rattle.child_laws.proofs.laws.new_runs_are_offered.Goals as goal

pub returns : goal.returns
returns c = new_offered
