use Rattle.child_laws.proofs.OutputLaws.{acts_bring}
use Rattle.child_laws.proofs.laws.acts_bring_nothing.Goals as goal

pub returns : goal.returns
returns c = acts_bring
