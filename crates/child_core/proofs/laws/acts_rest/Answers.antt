use Rattle.child_core.proofs.ActLaws.{acted-rest}
use Rattle.child_core.proofs.laws.acts_rest.Goals as goal

pub returns : goal.returns
returns c = acted-rest
