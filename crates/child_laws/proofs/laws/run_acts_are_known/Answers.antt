use Rattle.child_laws.proofs.KnowLaws.{run_acts_known}
use Rattle.child_laws.proofs.laws.run_acts_are_known.Goals as goal

pub returns : goal.returns
returns c = run_acts_known
