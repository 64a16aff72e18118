use Rattle.child_core.proofs.ActLaws.{acted-deserved}
use Rattle.child_core.proofs.laws.acts_are_deserved.Goals as goal

pub returns : goal.returns
returns c = acted-deserved
