use Rattle.child_core.proofs.ActLaws.{walked-acting}
use Rattle.child_core.proofs.laws.acts_are_walked.Goals as goal

pub returns : goal.returns
returns c = walked-acting
